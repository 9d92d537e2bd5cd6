-- A RUN of a program that reads lines: turns from a start, for as long as pieces are found. It knows nothing of what a program does with a line.
use Rattle.std.specs.Prelude.{ℕ, suc, ◌+◌, true, false, List, ◌++◌, ◌≡◌}
use Rattle.lines.specs.Lines.{Reading, at_start}
use Rattle.lines.specs.declared.Streams.{Streams}

-- the states of a program with its streams, and its turns from one to another: what is read by a turn, and the text that it puts
pub record Program : Type 1 where
  pub State : Type 0
  pub streams : State → Streams
  pub Turn : State → State → Type 0
  pub read_by : (σ τ : State) → Turn σ τ → Reading → Reading
  pub put_by : (σ τ : State) → Turn σ τ → List ℕ

-- a start: a state, the input's buffer, and the text put before any turn
pub record Start (P : Program) : Type 0 where
  pub state : P.State
  pub input : List ℕ
  pub text : List ℕ

-- a run of n turns, with its reading and the text put in all
pub data Runs (P : Program) (ρ : Start P) : ℕ → Reading → List ℕ → P.State → Type 0 where
  begins : Runs P ρ 0 (at_start ρ.input) ρ.text ρ.state
  goes : {n : ℕ} {x : Reading} {text : List ℕ} {σ : P.State} → Runs P ρ n x text σ → (P.streams σ).found ≡ true
      → (τ : P.State) (t : P.Turn σ τ) → Runs P ρ (suc n) (P.read_by σ τ t x) (text ++ P.put_by σ τ t) τ

-- a run to a state, with so many turns left of 2^64 - 1: none is left where nothing was found
pub record RunsTo (P : Program) (ρ : Start P) (σ : P.State) (left : ℕ) : Type 0 where
  pub turns : ℕ
  pub reading : Reading
  pub text : List ℕ
  pub runs : Runs P ρ turns reading text σ
  pub counted : (P.streams σ).found ≡ true → turns + left ≡ 18446744073709551615
  pub stopped : (P.streams σ).found ≡ false → left ≡ 0
