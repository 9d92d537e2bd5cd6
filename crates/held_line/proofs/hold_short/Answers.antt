use Prim.Native.Nat.{ℕ, ◌-◌}
use lib.ListN.{length}
use borrow.Author.Tests.{ne_eqb}
use mathlib.Core.Bool.{cond}
use mathlib.Core.List.{List}
use mathlib.Core.Path.{◌≡◌}
use Rattle.held_line.specs.Lines.{ends_in_return}
use Rattle.held_line.proofs.Short.{held-empty, held-copied}
use borrow.Author.Rules.{rules}
use Rattle.held_line.proofs.hold_short.Goals as goal
use Rattle.held_line.proofs.hold_short.Goals.{then-returned, else-returned}

pub returns-then-length-eq0 : goal.returns-then-length-eq0
returns-then-length-eq0 c = let a = c.args in held-empty a.line a.piece.now c.if-length-eq0.true

pub returns : goal.returns
returns c =
    let p : List ℕ = c.args.piece.now in
    let x : List ℕ = c.args.line.characters in
    let n : ℕ = c.if-returned.count in
    let e : n ≡ cond (ends_in_return p) (length p - 1) (length p) =
    elim c.if-returned.branch [ then-returned w ↦ rw w.if-returned.true w.count-is | else-returned w ↦ rw (ne_eqb _ _ w.if-returned.false) w.count-is ] in
    rw (c.copy.ensures.1, c.requires.0, c.requires.1) (held-copied x (search rules) p n c.requires.2 e)
