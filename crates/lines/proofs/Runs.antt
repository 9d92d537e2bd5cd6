-- How a run goes on (`specs/Runs.antt`): at the start, with one turn more, and with the last one.
use Prim.Native.Nat.{ℕ, suc, ◌+◌, ◌-◌, ◌≤◌, ◌<◌}
use native.Mathlib.Omega.{arith}
use mathlib.Core.Bool.{true, false, not, false≢true}
use mathlib.Core.List.{◌++◌}
use mathlib.Core.Path.{◌≡◌, refl, sym, ◌∙◌}
use Rattle.octets.proofs.Tests.{cases}
use Rattle.lines.specs.Lines.{at_start}
use Rattle.lines.specs.Runs.{Program, Start, RunsTo}
use Rattle.lines.specs.Runs.Runs.{begins, goes}

pub runs-begin : (P : Program) (ρ : Start P) → (P.streams ρ.state).found ≡ true → RunsTo P ρ ρ.state 18446744073709551615
runs-begin P ρ e = record {
  turns = 0;
  reading = at_start ρ.input;
  text = ρ.text;
  runs = begins;
  counted = λ _. omega arith;
  stopped = λ n. absurd (false≢true (sym n ∙ e));
}

module _ (P : Program) {ρ : Start P} (σ : P.State) {left : ℕ} (run : RunsTo P ρ σ left) (some : 0 < left) (τ : P.State) (t : P.Turn σ τ) where
  was-found : (P.streams σ).found ≡ true
  was-found = cases (P.streams σ).found (λ e. e) (λ e. absurd (omega (arith, run.stopped e)))

  pub runs_on : (P.streams τ).found ≡ true → RunsTo P ρ τ (left - 1)
  runs_on e = record {
    turns = suc run.turns;
    reading = P.read_by σ τ t run.reading;
    text = run.text ++ P.put_by σ τ t;
    runs = goes run.runs was-found τ t;
    counted = λ _. omega (arith, run.counted was-found);
    stopped = λ n. absurd (false≢true (sym n ∙ e));
  }

  pub runs-out : (P.streams τ).found ≡ false → RunsTo P ρ τ 0
  runs-out n = record {
    turns = suc run.turns;
    reading = P.read_by σ τ t run.reading;
    text = run.text ++ P.put_by σ τ t;
    runs = goes run.runs was-found τ t;
    counted = λ e. absurd (false≢true (sym n ∙ e));
    stopped = λ _. refl;
  }

-- the same by a count of turns, as a `for` over them has it
module _ (P : Program) {ρ : Start P} (σ : P.State) {turn : ℕ} (run : RunsTo P ρ σ (18446744073709551615 - turn)) (more : turn < 18446744073709551615)
    (τ : P.State) (t : P.Turn σ τ) where
  pub turn-next : not (P.streams τ).found ≡ false → RunsTo P ρ τ (18446744073709551615 - (turn + 1))
  turn-next n =
      cases (P.streams τ).found
      (λ e. let less : 18446744073709551615 - turn - 1 ≡ 18446744073709551615 - (turn + 1) = omega (arith, more) in
      rw less at (runs_on P σ run (omega (arith, more)) τ t e))
      (λ e. absurd (false≢true (sym (rw e at n))))

  pub turn-last : not (P.streams τ).found ≡ true → RunsTo P ρ τ 0
  turn-last y = cases (P.streams τ).found (λ e. absurd (false≢true (rw e at y))) (λ e. runs-out P σ run (omega (arith, more)) τ t e)

-- all of them taken
pub turns-over : (P : Program) {ρ : Start P} (σ : P.State) {turn : ℕ} → RunsTo P ρ σ (18446744073709551615 - turn) → 18446744073709551615 ≤ turn
    → RunsTo P ρ σ 0
turns-over P σ {turn} run over = let none : 18446744073709551615 - turn ≡ 0 = omega (arith, over) in rw none at run
