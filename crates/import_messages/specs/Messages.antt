-- What becomes of a message that was delivered. Quotations are of `docs/IMPORT.md`.
use Rattle.std.specs.Prelude.{ℕ, Bool, ◌&&◌, cond, eqb, Option, None, Some, Result, Ok, Err}
use Rattle.provisioning.specs.Message.{refusal_number}
use Rattle.provisioning.specs.declared.Capabilities.{Capabilities}
use Rattle.provisioning.specs.declared.MessageRefusal.{MessageRefusal}
use Rattle.provisioning.specs.declared.Message.{Message}
use Rattle.provisioning.specs.declared.Message.TheVariants as M
use Rattle.line_fields.specs.declared.Word.{Word}
use Rattle.line_fields.specs.declared.Word.TheVariants as W
use Rattle.stock_table.specs.Rows.{record_row, message_row, refused_row}
use Rattle.stock_table.specs.declared.Origin.{Origin}
use Rattle.import_tray.specs.Trays.{stock_at, with_stock, row_after}
use Rattle.import_tray.specs.declared.Stock.{Stock}
use Rattle.import_tray.specs.declared.Stock.TheVariants as S
use Rattle.import_tray.specs.declared.Tray.{Tray}
use Rattle.import_tray.specs.declared.Step.{Step}

-- the fields of a Capabilities message; none of a message of another kind
abbrev pub record_of : Message → Option Capabilities
record_of (M.Invite attention) = None
record_of (M.Capabilities c) = Some c
record_of (M.Start c) = None
record_of (M.PublicKey x y) = None
record_of M.InputComplete = None
record_of (M.Confirmation c) = None
record_of (M.Random r) = None
record_of (M.Data d mic) = None
record_of M.Complete = None
record_of (M.Failed code) = None

-- what the reader's answer comes to
abbrev pub reading_of : Result Message MessageRefusal → Result (Option Capabilities) MessageRefusal
reading_of (Ok m) = Ok (record_of m)
reading_of (Err r) = Err r

-- "the same eight fields"
unfoldable pub same_fields : Capabilities → Capabilities → Bool
same_fields a b =
    eqb a.elements b.elements
    && (eqb a.algorithms b.algorithms
    && (eqb a.public_key_type b.public_key_type
    && (eqb a.static_oob_type b.static_oob_type
    && (eqb a.output_oob_size b.output_oob_size
    && (eqb a.output_oob_action b.output_oob_action
    && (eqb a.input_oob_size b.input_oob_size
    && eqb a.input_oob_action b.input_oob_action))))))

-- "`repeated`: a further one since then with the same eight fields as the record; `conflict`: a further one with other fields"
abbrev pub further_word : Capabilities → Capabilities → Word
further_word first c = cond (same_fields first c) W.Repeated W.Conflict

-- "`record`: a delivered Capabilities message that the reader accepts, the first since its socket was opened"
abbrev pub capabilities_by : Stock → Tray → ℕ → ℕ → Origin → Capabilities → Step
capabilities_by S.Unopened tray s line origin c = row_after (with_stock tray s (S.Recorded c)) (record_row W.Record line origin c)
capabilities_by S.Missing tray s line origin c = row_after (with_stock tray s (S.Recorded c)) (record_row W.Record line origin c)
capabilities_by (S.Recorded first) tray s line origin c = row_after tray (record_row (further_word first c) line origin c)

abbrev pub capabilities_step : Tray → ℕ → ℕ → Origin → Capabilities → Step
capabilities_step tray s line origin c = capabilities_by (stock_at tray s) tray s line origin c

-- by the reader's answer: "a delivered message of another kind that the reader accepts", or a refusal "of a delivered message by the reader"
abbrev pub message_by : Result (Option Capabilities) MessageRefusal → Tray → ℕ → ℕ → Origin → Result Message MessageRefusal → Step
message_by (Ok (Some c)) tray s line origin m = capabilities_step tray s line origin c
message_by (Ok None) tray s line origin m = row_after tray (message_row line origin m)
message_by (Err r) tray s line origin m = row_after tray (refused_row line origin (refusal_number r))

-- A DELIVERED MESSAGE, read, at place s by the line of that number
abbrev pub message_step : Tray → ℕ → ℕ → Origin → Result Message MessageRefusal → Step
message_step tray s line origin m = message_by (reading_of m) tray s line origin m
