use Prim.Native.Nat.{ℕ, ◌≤◌, ◌<◌}
use lib.ListN.{length, drop_of_length-le}
use lib.Seq.{drop-cons}
use mathlib.Core.List.{List}
use native.Mathlib.Numerals.{add-one}
use native.Mathlib.Omega.{arith}
use Rattle.held_line.specs.Lines.{held_piece}
use Rattle.held_line.proofs.hold_each.Goals as goal

pub loop-character-preserved : goal.loop-character-preserved
unfolding held_piece
loop-character-preserved c =
    let s : List ℕ = c.args.piece.now in
    let l = c.loop-character in
    let i : ℕ = l.character-index in
    let h : i < length s = omega arith in
    rw (add-one, c.take.ensures) (rw (drop-cons s i 0) at l.invariant)

pub returns : goal.returns
unfolding held_piece
returns c =
    let s : List ℕ = c.args.piece.now in
    let l = c.loop-character in
    let h : length s ≤ l.character-index = omega arith in
    rw (drop_of_length-le s) at l.invariant
