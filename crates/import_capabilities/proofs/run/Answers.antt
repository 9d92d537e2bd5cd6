use Prim.Native.Nat.{◌+◌, ◌-◌}
use native.Mathlib.Omega.{arith}
use mathlib.Core.Bool.{true, false}
use mathlib.Core.Path.{◌≡◌, refl, ap}
use Rattle.lines.specs.declared.Streams.{Streams}
use Rattle.lines.specs.Runs.{RunsTo}
use Rattle.lines.proofs.Runs.{runs-begin, runs_on, runs-out}
use Rattle.import_capabilities.specs.Runs.{state_of, program, first}
use borrow.Author.Tests.{not-true}
use borrow.Author.Rules.{rules}
use Rattle.import_capabilities.proofs.run.Goals as goal
use Rattle.import_capabilities.proofs.run.Goals.{else-loop-turn-test, then-loop-turn-test+then-not-progress}

pub loop-turn-init : goal.loop-turn-init
loop-turn-init g c =
    let b = c.begin-progress.ensures in
    (refl, refl, refl, rw c.requires (runs-begin program _ (ap (λ (s : Streams). s.found) b.streams)))

pub loop-turn-preserved : goal.loop-turn-preserved
loop-turn-preserved g c =
    let l = c.loop-turn in
    let t = c.take_turn-progress.ensures in
    let found : c.take_turn-progress.result.streams.found ≡ true = search rules in
    let less : 18446744073709551615 - l.turn - 1 ≡ 18446744073709551615 - (l.turn + 1) = omega arith in
    (search rules, search rules, search rules, rw less at (runs_on program _ l.invariant.3 (omega (arith, c.loop-turn-test.true)) _ t found))

pub returns : goal.returns
returns g c =
    let l = c.loop-turn in
    let e = c.loop-turn-test in
    let start = c.begin-progress in
    let ran : RunsTo program (first start.result c.args.input.now start.new.output) (state_of e.progress e.input e.area e.output) 0 =
    elim e.branch [
      | else-loop-turn-test w ↦
          let none : 18446744073709551615 - l.turn ≡ 0 = omega (arith, w.loop-turn-test.false) in
          rw (w.progress-is, w.input-is, w.area-is, w.output-is) (rw none at l.invariant.3)
      | then-loop-turn-test+then-not-progress w ↦
          let t = w.take_turn-progress.ensures in
          let out : w.take_turn-progress.result.streams.found ≡ false = not-true w.take_turn-progress.result.streams.found w.if-not-progress.true in
          rw (w.progress-is, w.input-is, w.area-is, w.output-is) (runs-out program _ l.invariant.3 (omega (arith, w.loop-turn-test.true)) _ t out)
    ] in
    record {
      start = start.result;
      output_at_start = start.new.output;
      starts = start.ensures;
      last = e.progress;
      output_at_last = e.output;
      run = ran;
      streams = c.put_end-put.result;
      end = c.put_end-put.ensures;
      flushed = c.flush.ensures.0;
      line = refl;
      log = refl;
    }
