-- The loop's invariant: what is left of the text decides as the whole text does, and the value is not too much yet.
use Prim.Native.Nat.{◌≤◌}
use lib.ListN.{length}
use Rattle.rehearsal_lines.proofs.Numbers.{Left}
use Rattle.rehearsal_lines.proofs.decimals.read_decimal.Given as goal

abbrev pub invariant-loop-character : goal.invariant-loop-character
invariant-loop-character l = (1 ≤ length l.text) × (l.value ≤ l.most) × Left l.text l.value l.character-index
