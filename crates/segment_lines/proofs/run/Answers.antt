use mathlib.Core.Path.{refl}
use native.Mathlib.Omega.{arith}
use Rattle.lines.specs.Runs.{RunsTo}
use Rattle.lines.proofs.Runs.{turn-next, turn-last, turns-over}
use Rattle.segment_lines.specs.Runs.{state_of, program, first}
use Rattle.segment_lines.proofs.Laws.{turn-few}
use Rattle.segment_lines.proofs.Runs.{runs-start}
use Rattle.segment_lines.proofs.run.Goals as goal
use Rattle.segment_lines.proofs.run.Goals.{else-loop-test, then-loop-test+then-not-progress}

pub loop-init : goal.loop-init
loop-init g c = (refl, refl, omega arith, runs-start c.start.result c.start.ensures)

pub loop-preserved : goal.loop-preserved
loop-preserved g c =
    let t = c.take_turn-progress.ensures in
    (omega arith, omega arith, turn-few t, turn-next program _ c.loop.invariant.3 c.loop-test.true _ t c.if-not-progress.false)

pub returns : goal.returns
returns g c =
    let a = c.args in
    let l = c.loop-test in
    let run : RunsTo program (first a.input.now a.line.now a.output.now) (state_of l.progress l.input l.line l.output) 0 =
    elim l.branch [
      | else-loop-test w ↦ rw (w.progress-is, w.input-is, w.line-is, w.output-is)
          (turns-over program _ c.loop.invariant.3 (omega arith))
      | then-loop-test+then-not-progress w ↦ rw (w.progress-is, w.input-is, w.line-is, w.output-is)
          (turn-last program _ c.loop.invariant.3 w.loop-test.true _ w.take_turn-progress.ensures w.if-not-progress.true)
    ] in
    record { after_turns = l.progress; run = run; flushed = c.flush.ensures.0; held = refl; number = refl }
