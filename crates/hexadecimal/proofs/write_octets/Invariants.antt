-- The loop's invariant: the output has the first j octets at its start (`paste`); `octets-turn` is its step.
use lib.ListN.{length}
use lib.Seq.{paste}
use mathlib.Core.Path.{◌≡◌}
use Rattle.hexadecimal.specs.Hex.{octets_of}
use Rattle.hexadecimal.proofs.write_octets.Given as goal

abbrev pub invariant-loop-j : goal.invariant-loop-j
invariant-loop-j l = (length l.output ≡ length l.initial.output) × (l.output ≡ paste l.initial.output 0 (octets_of l.text) l.j)
