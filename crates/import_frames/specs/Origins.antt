-- What an answer of the station comes to, and what a row says of the frame that it comes from. Quotations are of `docs/IMPORT.md`.
use Rattle.std.specs.Prelude.{ℕ, ◌+◌, ◌<◌, Option, None, Some, Result, Ok, Err}
use Rattle.links.specs.declared.Answer.{Answer}
use Rattle.pb_adv.specs.Frame.{id_of}
use Rattle.pb_adv.specs.declared.Frame.{Frame}
use Rattle.pb_adv.specs.declared.FrameRefusal.{FrameRefusal}
use Rattle.pb_adv.specs.declared.Frame.TheVariants as P
use Rattle.transactions.specs.declared.Socket.{Socket}
use Rattle.links.specs.declared.Refusal.{Refusal}
use Rattle.links.specs.declared.Answer.TheVariants as A
use Rattle.line_fields.specs.declared.Field.{Field}
use Rattle.line_fields.specs.declared.Field.TheVariants as F
use Rattle.stock_table.specs.Rows.{origin_of, unknown}
use Rattle.stock_table.specs.declared.Origin.{Origin}
use Rattle.transactions.specs.declared.TransactionNumber.{TransactionNumber}
use Rattle.import_frames.specs.declared.Delivery.{Delivery}

abbrev pub delivery : ℕ → TransactionNumber → Delivery
delivery n t = record { length = n; number = t }

-- a refusal, a delivery, or "Answers that are neither a delivery nor a refusal write nothing."
abbrev pub outcome_of : Result Answer Refusal → Result (Option Delivery) Refusal
outcome_of (Err r) = Err r
outcome_of (Ok A.AcknowledgeAgain) = Ok None
outcome_of (Ok A.Kept) = Ok None
outcome_of (Ok A.Repeat) = Ok None
outcome_of (Ok (A.Delivered n t)) = Ok (Some (delivery n t))
outcome_of (Ok A.Opened) = Ok None
outcome_of (Ok A.Already) = Ok None
outcome_of (Ok (A.Closed reason)) = Ok None
outcome_of (Ok A.Acknowledged) = Ok None
outcome_of (Ok (A.Sending t n)) = Ok None
outcome_of (Ok A.Done) = Ok None

-- the socket at place s, counted from 0
abbrev pub socket_at : ℕ → Socket
socket_at s = record { 0 = s + 1 }

-- a place that was found is one of eight
abbrev pub FoundWithin : Option ℕ → Type 0
FoundWithin (Some s) = s < 8
FoundWithin None = Unit {0}

-- "the socket where a record in use had that Link ID when the line came"
abbrev pub socket_field : Option ℕ → Field
socket_field (Some s) = F.Decimal (s + 1)
socket_field None = F.Empty

-- "number if it is a segment or an acknowledgement"
abbrev pub number_field : Frame → Field
number_field (P.Segment s) = F.Octet s.number.0
number_field (P.Acknowledgement id t) = F.Octet t.0
number_field (P.Open id uuid) = F.Empty
number_field (P.Ack id) = F.Empty
number_field (P.Close id reason) = F.Empty

-- "of octets that parse as a frame their link_id, the socket [..], and number if it is a segment or an acknowledgement"; "For octets that parse as no
-- frame (1, 2) [..] socket, link_id and number are empty."
abbrev pub frame_origin : Option ℕ → Result Frame FrameRefusal → Origin
frame_origin found (Ok frame) = origin_of (socket_field found) (F.Number (id_of frame)) (number_field frame)
frame_origin found (Err r) = unknown
