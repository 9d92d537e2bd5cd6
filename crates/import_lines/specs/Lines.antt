-- One line of a tray's log: what it does to the tray and the lent area, and what it writes. Quotations are of `docs/IMPORT.md`.
use Rattle.std.specs.Prelude.{ℕ, ◌/◌, true, false, cond, List, [], ◌≡◌, leb, length, take, drop, Option, None, Some, Result, Ok, Err}
use Rattle.links.specs.declared.Answer.{Answer}
use Rattle.hexadecimal.specs.Hex.{octets_of}
use Rattle.transactions.specs.Numbers.{socket_place}
use Rattle.transactions.specs.declared.Socket.{Socket}
use Rattle.links.specs.Links.{refusal_number}
use Rattle.links.specs.Station.{local_open}
use Rattle.links.specs.declared.Refusal.{Refusal}
use Rattle.links.specs.declared.Side.TheVariants.{Provisioner}
use Rattle.links.specs.declared.Link.{Link}
use Rattle.line_fields.specs.declared.Field.TheVariants as F
use Rattle.stock_table.specs.Rows.{origin_of, unknown, refused_row}
use Rattle.import_tray.specs.Trays.{with_links, with_stock, row_after, nothing_after}
use Rattle.import_tray.specs.declared.Stock.TheVariants as S
use Rattle.import_tray.specs.declared.Tray.{Tray}
use Rattle.import_tray.specs.declared.Step.{Step}
use Rattle.import_frames.specs.Origins.{outcome_of}
use Rattle.import_frames.specs.Heard.{heard_step, heard_area}
use Rattle.import_frames.specs.Sent.{sent_step}
use Rattle.import_frames.specs.declared.Delivery.{Delivery}
use Rattle.log_lines.specs.Lines.{is_frame, is_marked_sent, is_opening, is_passed, socket_in, id_in}

-- ---- one line

-- "anything else: an argument that is wrong: 11"
abbrev pub wrong_line : Tray → ℕ → Step
wrong_line tray number = row_after tray (refused_row number unknown 11)

-- an opening: the local Open call, then by its answer. "A socket is opened by an opening line that was not refused"; a refusal has "its socket and link_id"
abbrev pub opened_by : Result (Option Delivery) Refusal → Tray → ℕ → Socket → ℕ → Step
opened_by (Err r) tray number s id = row_after tray (refused_row number (origin_of (F.Decimal s.0) (F.Number id) F.Empty) (refusal_number r))
opened_by (Ok d) tray number s id = nothing_after (with_stock tray (socket_place s) S.Missing)

unfoldable pub opened_step : Tray → ℕ → Socket → ℕ → Step
opened_step tray number s id =
    let r : Result Answer Refusal × List Link = local_open Provisioner tray.links s id in
    opened_by (outcome_of r.0) (with_links tray r.1) number s id

-- a line that is neither frame nor opening
unfoldable pub plain_step : Tray → ℕ → List ℕ → Step
plain_step tray number line = cond (is_passed line) (nothing_after tray) (wrong_line tray number)

-- a line that is no frame
unfoldable pub other_step : Tray → ℕ → List ℕ → Step
other_step tray number line = cond (is_opening line) (opened_step tray number (socket_in line) (id_in line)) (plain_step tray number line)

-- what stands behind `>`
unfoldable pub sent_line : Tray → ℕ → List ℕ → Step
sent_line tray number digits = cond (is_frame digits) (sent_step tray number (octets_of digits)) (wrong_line tray number)

-- a line that is no frame heard
unfoldable pub unheard_step : Tray → ℕ → List ℕ → Step
unheard_step tray number line = cond (is_marked_sent line) (sent_line tray number (drop 1 line)) (other_step tray number line)

-- ONE LINE OF A LOG, the line of that number
unfoldable pub line_step : Tray → List ℕ → ℕ → List ℕ → Step
line_step tray area number line = cond (is_frame line) (heard_step tray area number (octets_of line)) (unheard_step tray number line)

-- the lent area after it
unfoldable pub line_area : Tray → List ℕ → List ℕ → List ℕ
line_area tray area line = cond (is_frame line) (heard_area tray area (octets_of line)) area

-- ---- in the code

-- the octets of a frame's digits, in a room of 30: of a longer frame the room as it was, of any other text none
unfoldable pub held_frame : List ℕ → List ℕ → List ℕ
held_frame digits room = cond (is_frame digits) (cond (leb (length digits / 2) (length room)) (octets_of digits) room) []

-- what is read of digits: no frame, or that many octets at the start of the room
abbrev pub FrameRead : List ℕ → List ℕ → Option ℕ → List ℕ → Type 0
FrameRead digits room None after = is_frame digits ≡ false
FrameRead digits room (Some n) after =
    (is_frame digits ≡ true) × (n ≡ length (held_frame digits room)) × (take n after ≡ held_frame digits room)
