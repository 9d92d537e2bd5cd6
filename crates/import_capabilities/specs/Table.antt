-- THE TABLE OF A LOG, one function from all octets read to all octets written: the header, the rows of the lines, and those after the last line. A run puts
-- exactly that text, however the system hands the input over. The proofs are `proofs/Table.antt`. Quotations are of `docs/IMPORT.md`.
use Rattle.std.specs.Prelude.{ℕ, ◌≤◌, true, false, List, ◌++◌, ◌≡◌, length}
use Rattle.octets.specs.Cut.{joined}
use Rattle.lines.specs.Streams.{EndWaits}
use Rattle.lines.specs.Lines.{lines_by, ended_lines}
use Rattle.stock_table.specs.Columns.{header_line}
use Rattle.import_log.specs.Logs.{text_from, at_first, last_text, rows_of}
use Rattle.held_line.specs.Lines.{without_return}
use Rattle.import_capabilities.specs.declared.Progress.{Progress}
use Rattle.import_capabilities.specs.Runs.{Ran}

-- "A line ends with a newline or with the end of input; nothing after the last newline is no line. One carriage return straight before a newline is no part
-- of the line (one at the end of input is)."
abbrev pub log_lines : List ℕ → List (List ℕ)
log_lines text = lines_by without_return text

abbrev pub table_of : List ℕ → List ℕ
table_of text = header_line ++ rows_of (log_lines text)

module _ {input output : List ℕ} {r : Progress} {input_after area_after output_after : List ℕ} (ran : Ran input output r input_after area_after output_after) where
  -- all that was read, as the system handed it over
  abbrev pub read_in : List ℕ
  read_in = joined ran.run.reading.read

  -- the text put in all where the end of the input was met
  abbrev pub put_in : List ℕ
  put_in = ran.run.text ++ last_text ran.last.log

-- where the end of the input was met, the text put is the table of all that was read, and what waited before the last writing out is its end
abbrev pub WholeTable : Type 0
WholeTable =
    (input output : List ℕ) → 315 ≤ length output → (r : Progress) (input_after area_after output_after : List ℕ)
    → (ran : Ran input output r input_after area_after output_after) → ran.last.streams.over ≡ true
    → (put_in ran ≡ table_of (read_in ran)) × EndWaits (put_in ran) ran.streams output_after

-- a table that was cut short, the end of the input not met, as where the input could not be read or the output not be written
pub record CutShort {input output : List ℕ} {r : Progress} {input_after area_after output_after : List ℕ}
    (ran : Ran input output r input_after area_after output_after) : Type 0 where
  -- where nothing more was found (else the run had 2^64 - 1 turns), the text put is the header and the rows of those lines of all that was read that a newline
  -- ends; none of the rows after the last line is put
  pub rows : ran.last.streams.found ≡ false → ran.run.text ≡ header_line ++ text_from at_first (ended_lines without_return (read_in ran))
  -- it is always the front of the table of whatever would have followed
  pub front : (more : List ℕ) → (rest : List ℕ) × (table_of (read_in ran ++ more) ≡ ran.run.text ++ rest)
  -- what waited before the last writing out is its end
  pub waits : EndWaits ran.run.text ran.streams output_after

abbrev pub ShortTable : Type 0
ShortTable =
    (input output : List ℕ) → 315 ≤ length output → (r : Progress) (input_after area_after output_after : List ℕ)
    → (ran : Ran input output r input_after area_after output_after) → ran.last.streams.over ≡ false → CutShort ran
