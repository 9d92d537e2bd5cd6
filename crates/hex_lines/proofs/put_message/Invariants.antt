-- The loop's invariant: the output has the first lines at its start, and `at` is their length; `lines-turn` is its step.
use lib.ListN.{length}
use mathlib.Core.Path.{◌≡◌}
use Rattle.hex_lines.specs.Steps.{first_lines}
use Rattle.octets.specs.Parts.{write}
use Rattle.hex_lines.proofs.put_message.Given as goal

abbrev pub invariant-loop-index : goal.invariant-loop-index
invariant-loop-index l =
    (length l.output ≡ length l.initial.output) × (l.at ≡ length (first_lines l.number l.message l.index)) × (l.output ≡ write l.initial.output 0 (first_lines l.number l.message l.index))
