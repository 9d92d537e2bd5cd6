use Prim.Native.Nat.{◌≤◌}
use borrow.Author.Rules.{rules}
use borrow.Author.Tests.{le-leb}
use lib.ListN.{length}
use mathlib.Core.Bool.{true, false}
use mathlib.Core.Path.{◌≡◌, sym, ◌∙◌}
use native.Mathlib.Omega.{arith}
use Rattle.octets.specs.Lengths.{is_length}
use Rattle.octets.specs.Writing.{written, output_after}
use Rattle.octets.proofs.Tests.{tests, length-out}
use Rattle.transactions.specs.Segments.{seg_n}
use Rattle.pb_adv_writing.proofs.write_segment.Goals.{then-not-is_length-via-then-not-is_length, then-not-is_length-via-else-not-is_length+then-last_segment-index}
use Rattle.pb_adv_writing.proofs.write_segment.Goals as goal

pub returns-then-not-is_length : goal.returns-then-not-is_length
unfolding written output_after
returns-then-not-is_length c = elim c.then-not-is_length.branch [
  | then-not-is_length-via-then-not-is_length w ↦
      let no_length : is_length (length c.args.message.now) ≡ false = sym c.is_length.ensures ∙ w.if-not-is_length.true in
      search (no_length)
  | then-not-is_length-via-else-not-is_length+then-last_segment-index w ↦
      let in-range : is_length (length c.args.message.now) ≡ true = sym c.is_length.ensures ∙ w.if-not-is_length.false in
      search (tests, in-range, ← w.last_segment.ensures, w.if-last_segment-index.true)
]

pub overflow_cast-message : goal.overflow_cast-message
overflow_cast-message c =
    let in-range : is_length (length c.args.message.now) ≡ true = sym c.is_length.ensures ∙ c.if-not-is_length.false in
    let ranged : (1 ≤ length c.args.message.now) × (length c.args.message.now ≤ 1469) = length-out (length c.args.message.now) (in-range) in
    let l = ranged in search rules

pub put_start-requires : goal.put_start-requires
put_start-requires c =
    let in-range : is_length (length c.args.message.now) ≡ true = sym c.is_length.ensures ∙ c.if-not-is_length.false in
    let ranged : (1 ≤ length c.args.message.now) × (length c.args.message.now ≤ 1469) = length-out (length c.args.message.now) (in-range) in
    let l = ranged in search rules

pub returns-then-index-eq0 : goal.returns-then-index-eq0
returns-then-index-eq0 c =
    let in-range : is_length (length c.args.message.now) ≡ true = sym c.is_length.ensures ∙ c.if-not-is_length.false in
    rw (c.if-index-eq0.true, in-range, le-leb 0 (seg_n (length c.args.message.now)) (omega arith)) c.put_start.ensures

pub put_continuation-requires : goal.put_continuation-requires
put_continuation-requires c =
    let in-range : is_length (length c.args.message.now) ≡ true = sym c.is_length.ensures ∙ c.if-not-is_length.false in
    let ranged : (1 ≤ length c.args.message.now) × (length c.args.message.now ≤ 1469) = length-out (length c.args.message.now) (in-range) in
    let l = ranged in search rules

pub returns : goal.returns
returns c =
    let in-range : is_length (length c.args.message.now) ≡ true = sym c.is_length.ensures ∙ c.if-not-is_length.false in
    simp (← c.last_segment.ensures, in-range, le-leb _ _ c.if-last_segment-index.false) c.put_continuation.ensures
