use Prim.Native.Nat.{◌<◌}
use native.Mathlib.Omega.{arith}
use mathlib.Core.Path.{◌≡◌, refl}
use lib.ListN.{length}
use borrow.Author.Tests.{eq-eqb, le-leb, lt-leb}
use Rattle.held_line.specs.Held.{full_count, full_buffer, count_after, buffer_after}
use borrow.Author.Rules.{rules}
use Rattle.held_line.proofs.HeldLine.hold.Goals as goal
use Rattle.held_line.proofs.HeldLine.hold.Goals.{else-self-eq64-via-then-self-eq64+else-is_digit, else-self-eq64-via-else-self-eq64}

pub returns-then-self-lt64 : goal.returns-then-self-lt64
unfolding count_after buffer_after
returns-then-self-lt64 c =
    let l = c.args.self.now in
    let long : length l.characters ≡ 64 = search rules in
    let few : l.count < 64 = c.if-self-lt64.true in
    rw (eq-eqb (length l.characters) 64 long, le-leb l.count 64 (omega arith), lt-leb 64 l.count few) refl

pub returns-then-is_digit-2 : goal.returns-then-is_digit-2
unfolding count_after buffer_after full_count full_buffer
returns-then-is_digit-2 c =
    let l = c.args.self.now in
    let long : length l.characters ≡ 64 = search rules in
    let full : l.count ≡ 64 = c.if-self-eq64.true in
    rw (eq-eqb (length l.characters) 64 long, full, ← c.is_digit.ensures, c.if-is_digit.true, ← c.is_digit-then-is_digit.ensures, c.if-is_digit-2.true) refl

pub returns-else-is_digit-2 : goal.returns-else-is_digit-2
unfolding count_after buffer_after full_count full_buffer
returns-else-is_digit-2 c =
    let l = c.args.self.now in
    let long : length l.characters ≡ 64 = search rules in
    let full : l.count ≡ 64 = c.if-self-eq64.true in
    rw (eq-eqb (length l.characters) 64 long, full, ← c.is_digit.ensures, c.if-is_digit.true, ← c.is_digit-then-is_digit.ensures, c.if-is_digit-2.false) refl

pub returns-else-self-eq64 : goal.returns-else-self-eq64
unfolding count_after buffer_after full_count full_buffer
returns-else-self-eq64 c =
    let l = c.args.self.now in
    let long : length l.characters ≡ 64 = search rules in
    elim c.else-self-eq64.branch [
      | else-self-eq64-via-then-self-eq64+else-is_digit w ↦
          let full : l.count ≡ 64 = w.if-self-eq64.true in
          rw (eq-eqb (length l.characters) 64 long, full, ← w.is_digit.ensures, w.if-is_digit.false) refl
      | else-self-eq64-via-else-self-eq64 w ↦
          let past : 64 < l.count = omega (arith, c.if-self-lt64.false, w.if-self-eq64.false) in
          rw (eq-eqb (length l.characters) 64 long, lt-leb l.count 64 past) refl
    ]
