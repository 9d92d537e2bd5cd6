-- What the program does: in a turn a piece of the input more is held, and where the line is then whole, it is taken; after the last line the rows of
-- the sockets and the last row.
use Rattle.std.specs.Prelude.{ℕ, zero, suc, ◌≤◌, true, false, cond, List, ◌≡◌, length, Result, Ok, Err}
use Rattle.lines.specs.Streams.{piece_in, with_waiting, waiting_after, TextWaits, Found, is_whole}
use Rattle.lines.specs.declared.Streams.{Streams}
use Rattle.stock_table.specs.Rows.{end_row}
use Rattle.stock_table.specs.Columns.{row_line}
use Rattle.import_tray.specs.Trays.{report_text, last_report}
use Rattle.import_tray.specs.declared.Tray.{Tray}
use Rattle.import_log.specs.Logs.{taken, area_after}
use Rattle.import_log.specs.declared.Log.{Log}
use Rattle.import_log.specs.declared.Taken.{Taken}
use Rattle.held_line.specs.Lines.{empty_line, settled, held_piece, begun, held_text}
use Rattle.held_line.specs.declared.HeldLine.{HeldLine}
use Rattle.import_capabilities.specs.declared.Progress.{Progress}
use Rattle.octets.specs.declared.WrongArgument.{WrongArgument}

-- the streams with the text of an answer waiting too
abbrev pub waiting_with : Streams → Result ℕ WrongArgument → List ℕ → Streams
waiting_with s (Ok n) output = with_waiting s (waiting_after s.waiting output n) s.taken
waiting_with s (Err e) output = s

-- the text of a row, or none, waits behind what waited
pub record RowWaits (s : Streams) (output text : List ℕ) (r : Streams) (after : List ℕ) : Type 0 where
  pub waits : TextWaits s output 315 text r after
  pub short : length text ≤ 315

-- ---- a turn

-- a piece more: the next one of the input is held
pub record PieceHeld (p : Progress) (input output : List ℕ) (r : Progress) (input_after : List ℕ) : Type 0 where
  pub found : Found p.streams input output r.streams input_after
  pub line : r.line ≡ held_piece p.line (piece_in r.streams input_after)
  pub log : r.log ≡ p.log

-- what is held of a line at its end: at the end of input with a carriage return that came last
abbrev pub whole_line : Streams → HeldLine → HeldLine
whole_line s line = cond s.ends line (settled line)

abbrev pub line_taken : Progress → List ℕ → Taken
line_taken p area = taken p.log area (held_text (whole_line p.streams p.line))

-- the line's end: it is taken, its row waits, and nothing is held
pub record LineEnded (p : Progress) (area output : List ℕ) (r : Progress) (area_at_end output_at_end : List ℕ) : Type 0 where
  pub text : RowWaits p.streams output (report_text (line_taken p area).report) r.streams output_at_end
  pub none : r.line ≡ empty_line
  pub log : r.log ≡ (line_taken p area).log
  pub lent : area_at_end ≡ area_after p.log area (held_text (whole_line p.streams p.line))

pub record Turn (p : Progress) (input area output : List ℕ) (r : Progress) (input_at_end area_at_end output_at_end : List ℕ) : Type 0 where
  pub read : Progress
  pub piece : PieceHeld p input output read input_at_end
  pub whole : is_whole read.streams (begun read.line) ≡ true → LineEnded read area output r area_at_end output_at_end
  pub goes : is_whole read.streams (begun read.line) ≡ false → (r ≡ read) × (area_at_end ≡ area) × (output_at_end ≡ output)

-- ---- after the last line

-- the rows of the first sockets, one after the other
pub data SocketsPut (tray : Tray) (s : Streams) (output : List ℕ) : ℕ → Streams → List ℕ → Type 0 where
  none : SocketsPut tray s output zero s output
  more : {n : ℕ} {before r : Streams} {between after : List ℕ} → SocketsPut tray s output n before between
      → RowWaits before between (report_text (last_report tray (record { 0 = suc n }))) r after → SocketsPut tray s output (suc n) r after

-- those of all eight, and the last row
pub record LastPut (log : Log) (s : Streams) (output : List ℕ) (r : Streams) (after : List ℕ) : Type 0 where
  pub between : Streams
  pub output_between : List ℕ
  pub sockets : SocketsPut log.tray s output 8 between output_between
  pub last : RowWaits between output_between (row_line (end_row log.lines)) r after

-- where the end of the input was met; a table that was cut short has none of them
pub record EndPut (p : Progress) (output : List ℕ) (r : Streams) (after : List ℕ) : Type 0 where
  pub whole : p.streams.over ≡ true → LastPut p.log p.streams output r after
  pub short : p.streams.over ≡ false → (r ≡ p.streams) × (after ≡ output)
