-- The loop's invariant: the output has the first 2 j digits at their place (`paste`); `text-turn` is its step.
use Prim.Native.Nat.{◌*◌}
use lib.ListN.{length}
use lib.Seq.{paste}
use mathlib.Core.Path.{◌≡◌}
use Rattle.hexadecimal.specs.Hex.{text_of}
use Rattle.hexadecimal.proofs.write_text.Given as goal

abbrev pub invariant-loop-j : goal.invariant-loop-j
invariant-loop-j l = (length l.output ≡ length l.initial.output) × (l.output ≡ paste l.initial.output l.at (text_of l.octets) (2 * l.j))
