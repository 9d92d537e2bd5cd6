-- WHAT THE BUYER READS: under each name of the header, in the row that a line writes of a Capabilities message, stands the text of that message's own
-- octets, which are octets of the line. The proof is `proofs/Shown.antt`.
use Rattle.std.specs.Prelude.{ℕ, true, List, ◌≡◌, get_or, Some}
use Rattle.hexadecimal.specs.Hex.{octets_of}
use Rattle.line_fields.specs.Lines.{decimal_of}
use Rattle.stock_table.specs.Columns.{row_line}
use Rattle.stock_table.specs.Promises.{under, RecordColumns}
use Rattle.stock_table.specs.declared.Row.{Row}
use Rattle.import_log.specs.Logs.{report_in, after_all, at_first, number_in}
use Rattle.import_log.specs.Records.{message_origin, is_record_word, IsTrue}

pub record IsShown (before : List (List ℕ)) (line : List ℕ) (row : Row) : Type 0 where
  pub is_true : IsTrue before line row
  pub columns : RecordColumns row.what (number_in (after_all at_first before)) (message_origin is_true.socket is_true.id is_true.number) is_true.octets (row_line row)
  -- octet 5 of the message is octet 14 of the frame
  pub static_oob_type : under "static_oob_type" (row_line row) ≡ decimal_of (get_or (octets_of line) 14 0)

abbrev pub EveryColumn : Type 0
EveryColumn =
    (before : List (List ℕ)) (line : List ℕ) (row : Row) → report_in (after_all at_first before) line ≡ Some row → is_record_word row.what ≡ true
    → IsShown before line row
