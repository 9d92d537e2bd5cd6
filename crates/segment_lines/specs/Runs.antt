-- LINES IN, LINES OUT: a run of the program is turns from the start, and the text that it puts in all is that of the lines of all that was read,
-- however much the system read at a time.
use Rattle.std.specs.Prelude.{ℕ, ◌≤◌, true, cond, List, [], ◌∷◌, ◌++◌, ◌≡◌, length}
use Rattle.octets.specs.Cut.{joined}
use Rattle.transactions.specs.declared.TransactionNumber.{TransactionNumber}
use Rattle.hex_lines.specs.Lines.{line_text, line_next}
use Rattle.lines.specs.Streams.{nothing_read, Flushed, EndWaits, is_whole}
use Rattle.lines.specs.Lines.{as_it_stands, lines_of, Reading, read_on}
use Rattle.lines.specs.Runs.{Program, Start, Runs, RunsTo}
use Rattle.segment_lines.specs.declared.Progress.{Progress}
use Rattle.segment_lines.specs.Turns.{held_text, Turn}

-- what the program has between turns
pub record State : Type 0 where
  pub progress : Progress
  pub input : List ℕ
  pub line : List ℕ
  pub output : List ℕ

-- "numbers from 00"
abbrev pub first_number : TransactionNumber
first_number = record { 0 = 0 }

abbrev pub state_of : Progress → List ℕ → List ℕ → List ℕ → State
state_of p input line output = record { progress = p; input = input; line = line; output = output }

-- ---- a run

abbrev pub TurnTo : State → State → Type 0
TurnTo σ τ = Turn σ.progress σ.input σ.line σ.output τ.progress τ.input τ.line τ.output

module _ (σ τ : State) (t : TurnTo σ τ) where
  -- the text that a turn puts: of the line that it ends
  abbrev pub put_by : List ℕ
  put_by = cond (is_whole t.read.streams t.read.held) (line_text t.read.number (held_text t.read τ.line)) []

  -- the reading after it
  abbrev pub read_by : Reading → Reading
  read_by x = read_on as_it_stands x σ.progress.streams σ.output t.read.streams τ.input

abbrev pub program : Program
program = record { State = State; streams = λ σ. σ.progress.streams; Turn = TurnTo; read_by = read_by; put_by = put_by }

-- the start, whatever the buffers have
abbrev pub first : List ℕ → List ℕ → List ℕ → Start program
first input line output = record {
  state = state_of (record { streams = nothing_read; held = 0; number = first_number }) input line output;
  input = input;
  text = [];
}

-- what the program has done: a run to where nothing more was found, or of 2^64 - 1 turns, that left the buffers as they are; then nothing waits any
-- more. A program that takes no turn must make up the system's answer, as that nothing was read: that no contract can rule out.
pub record Ran (input line output : List ℕ) (r : Progress) (input_after line_after output_after : List ℕ) : Type 0 where
  pub after_turns : Progress
  pub run : RunsTo program (first input line output) (state_of after_turns input_after line_after output_after) 0
  pub flushed : Flushed after_turns.streams output_after r.streams
  pub held : r.held ≡ after_turns.held
  pub number : r.number ≡ after_turns.number

-- ---- its text

-- the text of lines, one after the other, from a number on
abbrev pub text_from : TransactionNumber → List (List ℕ) → List ℕ
text_from t [] = []
text_from t (line ∷ lines) = line_text t line ++ text_from (line_next t line) lines

-- "the whole output", where the input's end was met, the line's buffer has one character more than the longest message has digits, and the output
-- room for any text
abbrev pub WholeOutput : Type 0
WholeOutput =
    (input line output : List ℕ) → length line ≡ 2939 → 3776 ≤ length output
    → (n : ℕ) (x : Reading) (text : List ℕ) (σ : State) → Runs program (first input line output) n x text σ → σ.progress.streams.over ≡ true
    → text ≡ text_from first_number (lines_of (joined x.read))

-- the same of what `run` has done; and what waited before its last writing out is the end of that text
abbrev pub WholeRun : Type 0
WholeRun =
    (input line output : List ℕ) → length line ≡ 2939 → 3776 ≤ length output
    → (r : Progress) (input_after line_after output_after : List ℕ) (ran : Ran input line output r input_after line_after output_after) → r.streams.over ≡ true
    → (ran.run.text ≡ text_from first_number (lines_of (joined ran.run.reading.read))) × EndWaits ran.run.text ran.after_turns.streams output_after
