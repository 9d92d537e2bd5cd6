use Prim.Native.Nat.{◌-◌}
use lib.ListN.{length}
use mathlib.Core.Path.{◌≡◌}
use Rattle.lines.specs.Runs.{RunsTo}
use Rattle.import_capabilities.specs.Runs.{state_of, program, first}
use Rattle.import_capabilities.proofs.run.Given as goal

abbrev pub invariant-loop-turn : goal.invariant-loop-turn
invariant-loop-turn g l =
    (length l.input ≡ length l.initial.input)
    × (length l.area ≡ length l.initial.area)
    × (length l.output ≡ length l.initial.output)
    × RunsTo program (first l.initial.progress l.initial.input l.initial.output) (state_of l.progress l.input l.area l.output) (18446744073709551615 - l.turn)
