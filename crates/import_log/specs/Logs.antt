-- A tray's log, line by line: the tray and the lent area after its lines, and the rows that they write. Quotations are of `docs/IMPORT.md`.
use Rattle.std.specs.Prelude.{ℕ, zero, suc, ◌+◌, cond, List, [], ◌∷◌, ◌++◌, ltb, replicate, Option}
use Rattle.stock_table.specs.Rows.{end_row}
use Rattle.stock_table.specs.Columns.{row_line}
use Rattle.stock_table.specs.declared.Row.{Row}
use Rattle.import_tray.specs.Trays.{new_tray, report_text, last_report}
use Rattle.import_tray.specs.declared.Tray.{Tray}
use Rattle.import_tray.specs.declared.Step.{Step}
use Rattle.import_lines.specs.Lines.{line_step, line_area}
use Rattle.import_log.specs.declared.Log.{Log}
use Rattle.import_log.specs.declared.Taken.{Taken}

-- "Lines count from 1."; the last number that there is stays
abbrev pub next_number : ℕ → ℕ
next_number n = cond (ltb n 18446744073709551615) (n + 1) n

abbrev pub log_of : Tray → ℕ → Log
log_of tray lines = record { tray = tray; lines = lines }

abbrev pub new_log : Log
new_log = log_of new_tray 0

-- the next line's step
abbrev pub step_of : Log → List ℕ → List ℕ → Step
step_of log area line = line_step log.tray area (next_number log.lines) line

abbrev pub taken : Log → List ℕ → List ℕ → Taken
taken log area line = record { log = log_of (step_of log area line).tray (next_number log.lines); report = (step_of log area line).report }

abbrev pub area_after : Log → List ℕ → List ℕ → List ℕ
area_after log area line = line_area log.tray area line

-- ---- lines, one after the other

-- a log with the lent area
pub record Import : Type 0 where
  pub log : Log
  pub area : List ℕ

-- what a line writes
abbrev pub report_in : Import → List ℕ → Option Row
report_in m line = (taken m.log m.area line).report

abbrev pub after : Import → List ℕ → Import
after m line = record { log = (taken m.log m.area line).log; area = area_after m.log m.area line }

abbrev pub after_all : Import → List (List ℕ) → Import
after_all m [] = m
after_all m (line ∷ lines) = after_all (after m line) lines

-- what lines write
abbrev pub text_from : Import → List (List ℕ) → List ℕ
text_from m [] = []
text_from m (line ∷ lines) = report_text (report_in m line) ++ text_from (after m line) lines

-- at the start: no line, and an area of zeros
abbrev pub at_first : Import
at_first = record { log = new_log; area = replicate 11752 0 }

-- the number that the next line gets
abbrev pub number_in : Import → ℕ
number_in m = next_number m.log.lines

-- ---- after the last line

-- the first n sockets: "`missing` and `unopened` come in one pass over the sockets 1 to 8"
abbrev pub sockets_text : Tray → ℕ → List ℕ
sockets_text tray zero = []
sockets_text tray (suc n) = sockets_text tray n ++ report_text (last_report tray (record { 0 = suc n }))

-- "`end`: last, always; line: how many lines there were"
abbrev pub last_text : Log → List ℕ
last_text log = sockets_text log.tray 8 ++ row_line (end_row log.lines)

-- THE ROWS of a log's lines, and those after the last
abbrev pub rows_of : List (List ℕ) → List ℕ
rows_of lines = text_from at_first lines ++ last_text (after_all at_first lines).log
