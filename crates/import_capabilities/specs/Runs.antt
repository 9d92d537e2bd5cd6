-- A run of the program: turns from the start, for as long as pieces are found, and then the rows after the last line.
use Rattle.std.specs.Prelude.{ℕ, true, cond, List, [], ◌≡◌, length, replicate}
use Rattle.octets.specs.Parts.{write}
use Rattle.lines.specs.Streams.{nothing_read, with_waiting, Flushed, is_whole}
use Rattle.lines.specs.declared.Streams.{Streams}
use Rattle.lines.specs.Lines.{Reading, read_on}
use Rattle.lines.specs.Runs.{Program, Start, RunsTo}
use Rattle.stock_table.specs.Columns.{header_line}
use Rattle.import_tray.specs.Trays.{report_text}
use Rattle.import_log.specs.Logs.{new_log}
use Rattle.held_line.specs.Lines.{without_return, empty_line, begun}
use Rattle.import_capabilities.specs.declared.Progress.{Progress}
use Rattle.import_capabilities.specs.Turns.{line_taken, Turn, EndPut}

-- what the program has between turns
pub record State : Type 0 where
  pub progress : Progress
  pub input : List ℕ
  pub area : List ℕ
  pub output : List ℕ

abbrev pub state_of : Progress → List ℕ → List ℕ → List ℕ → State
state_of p input area output = record { progress = p; input = input; area = area; output = output }

-- the start: the header waits at the start of the output
pub record Starts (output : List ℕ) (p : Progress) (output_after : List ℕ) : Type 0 where
  pub streams : p.streams ≡ with_waiting nothing_read (length header_line) true
  pub line : p.line ≡ empty_line
  pub log : p.log ≡ new_log
  pub put : output_after ≡ write output 0 header_line

-- ---- a run

abbrev pub TurnTo : State → State → Type 0
TurnTo σ τ = Turn σ.progress σ.input σ.area σ.output τ.progress τ.input τ.area τ.output

module _ (σ τ : State) (t : TurnTo σ τ) where
  -- the text that a turn puts: of the line that it ends
  abbrev pub put_by : List ℕ
  put_by = cond (is_whole t.read.streams (begun t.read.line)) (report_text (line_taken t.read σ.area).report) []

  -- the reading after it
  abbrev pub read_by : Reading → Reading
  read_by x = read_on without_return x σ.progress.streams σ.output t.read.streams τ.input

abbrev pub program : Program
program = record { State = State; streams = λ σ. σ.progress.streams; Turn = TurnTo; read_by = read_by; put_by = put_by }

-- a run starts from such a state, with the header put and an area of zeros
abbrev pub first : Progress → List ℕ → List ℕ → Start program
first p input output = record { state = state_of p input (replicate 11752 0) output; input = input; text = header_line }

-- what the program has done: a run for as long as pieces are found, or of 2^64 - 1 turns, then, where the input's end was met, the rows after the last line,
-- that left the buffers as they are; and nothing waits any more. A program that takes no turn must make up the system's answer, as that nothing was read: that no contract can rule out.
pub record Ran (input output : List ℕ) (r : Progress) (input_after area_after output_after : List ℕ) : Type 0 where
  pub start : Progress
  pub output_at_start : List ℕ
  pub starts : Starts output start output_at_start
  pub last : Progress
  pub output_at_last : List ℕ
  pub run : RunsTo program (first start input output_at_start) (state_of last input_after area_after output_at_last) 0
  pub streams : Streams
  pub end : EndPut last output_at_last streams output_after
  pub flushed : Flushed streams output_after r.streams
  pub line : r.line ≡ last.line
  pub log : r.log ≡ last.log
