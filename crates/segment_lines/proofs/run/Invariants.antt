use Prim.Native.Nat.{◌-◌, ◌≤◌}
use lib.ListN.{length}
use mathlib.Core.Path.{◌≡◌}
use Rattle.lines.specs.Runs.{RunsTo}
use Rattle.segment_lines.specs.Runs.{state_of, program, first}
use Rattle.segment_lines.proofs.run.Given as goal

abbrev pub invariant-loop : goal.invariant-loop
invariant-loop g l =
    (length l.line ≡ length l.initial.line)
    × (length l.output ≡ length l.initial.output)
    × (l.progress.held ≤ length l.line)
    × RunsTo program (first l.initial.input l.initial.line l.initial.output) (state_of l.progress l.input l.line l.output) (18446744073709551615 - l.counter)
