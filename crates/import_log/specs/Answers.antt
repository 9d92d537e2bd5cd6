-- EVERY ANSWER IS RECORDED, with premises for that one link alone: whatever came before, on this and any other link. The proofs are `proofs/Answers.antt`.
use Rattle.std.specs.Prelude.{ℕ, Bool, true, not, List, ◌∷◌, ◌++◌, ◌≢◌, ◌≡◌, eqb, drop, Some, Ok, Result, Err}
use Rattle.pb_adv.specs.declared.Frame.{Frame}
use Rattle.pb_adv.specs.declared.FrameRefusal.{FrameRefusal}
use Rattle.hexadecimal.specs.Hex.{octets_of}
use Rattle.transactions.specs.Numbers.{is_socket, socket_place}
use Rattle.transactions.specs.declared.Socket.{Socket}
use Rattle.transactions.specs.declared.TransactionNumber.{TransactionNumber}
use Rattle.pb_adv.specs.Frame.{parsed}
use Rattle.pb_adv.specs.declared.Frame.TheVariants as P
use Rattle.pb_adv_writing.specs.Writing.{segment_frame}
use Rattle.links.specs.Links.{sends, Awaits}
use Rattle.links.specs.Station.{link_at}
use Rattle.links.specs.Interleaving.{All}
use Rattle.links.specs.declared.Side.TheVariants.{Device}
use Rattle.links.specs.declared.LinkState.TheVariants as S
use Rattle.links.specs.declared.HalfMessage.{HalfMessage}
use Rattle.provisioning.specs.Message.{message_read}
use Rattle.provisioning.specs.declared.Capabilities.{Capabilities}
use Rattle.provisioning.specs.declared.Message.TheVariants as M
use Rattle.line_fields.specs.declared.Word.TheVariants as W
use Rattle.stock_table.specs.Rows.{record_row}
use Rattle.import_tray.specs.Trays.{stock_at}
use Rattle.import_tray.specs.declared.Stock.TheVariants as K
use Rattle.log_lines.specs.Lines.{is_frame, is_sent}
use Rattle.import_log.specs.Logs.{Import, report_in, after_all, at_first, number_in}
use Rattle.import_log.specs.Records.{Opens, fields_of, message_origin}

-- the link of socket s is open under a Link ID, awaits number t, has nothing half-received under t, and the socket has no record since its opening
pub record Expects (m : Import) (s : Socket) (id : ℕ) (t : TransactionNumber) : Type 0 where
  pub numbered : is_socket s 8 ≡ true
  pub is_open : (link_at m.log.tray.links s).state ≡ S.Open
  pub has_id : (link_at m.log.tray.links s).id ≡ id
  pub sent : sends Device t ≡ true
  pub awaited : Awaits (link_at m.log.tray.links s).last t
  pub not_half : (h : HalfMessage) → (link_at m.log.tray.links s).half ≡ Some h → h.number ≢ t
  pub no_record : (c : Capabilities) → stock_at m.log.tray (socket_place s) ≢ K.Recorded c

-- a line with the frame of a Capabilities message that the reader accepts
pub record Answering (line : List ℕ) (id : ℕ) (t : TransactionNumber) (octets : List ℕ) : Type 0 where
  pub accepted : (c : Capabilities) × (message_read octets ≡ Ok (M.Capabilities c))
  pub is_hexadecimal : is_frame line ≡ true
  pub frame : octets_of line ≡ segment_frame id t octets 0

-- writes the record
abbrev pub Recorded : Import → List ℕ → Socket → ℕ → TransactionNumber → List ℕ → Type 0
Recorded m line s id t octets = report_in m line ≡ Some (record_row W.Record (number_in m) (message_origin s id t) (fields_of octets))

abbrev pub EveryAnswer : Type 0
EveryAnswer =
    (before : List (List ℕ)) (s : Socket) (id : ℕ) (t : TransactionNumber) → Expects (after_all at_first before) s id t
    → (line octets : List ℕ) → Answering line id t octets → Recorded (after_all at_first before) line s id t octets

-- ---- from the log's start

-- another Link ID
abbrev pub is_other : ℕ → ℕ → Bool
is_other other id = not (eqb other id)

-- a frame is no Close with a Link ID
abbrev pub leaves_open : ℕ → Result Frame FrameRefusal → Bool
leaves_open id (Ok (P.Segment s)) = true
leaves_open id (Ok (P.Acknowledgement other t)) = true
leaves_open id (Ok (P.Open other uuid)) = true
leaves_open id (Ok (P.Ack other)) = true
leaves_open id (Ok (P.Close other reason)) = is_other other id
leaves_open id (Err r) = true

-- and no segment with it
abbrev pub leaves_alone : ℕ → Result Frame FrameRefusal → Bool
leaves_alone id (Ok (P.Segment s)) = is_other s.id id
leaves_alone id (Ok (P.Acknowledgement other t)) = true
leaves_alone id (Ok (P.Open other uuid)) = true
leaves_alone id (Ok (P.Ack other)) = true
leaves_alone id (Ok (P.Close other reason)) = is_other other id
leaves_alone id (Err r) = true

-- neither a Close heard or sent nor a segment heard with a Link ID; all other lines may come
pub record Leaves (id : ℕ) (line : List ℕ) : Type 0 where
  pub heard : is_frame line ≡ true → leaves_alone id (parsed (octets_of line)) ≡ true
  pub sent : is_sent line ≡ true → leaves_open id (parsed (octets_of (drop 1 line))) ≡ true

-- an opening that was not refused, later its Ack, no Close and no other segment for that Link ID, and then the frame of a Capabilities message under any
-- number that a device sends: it is recorded, whatever came before the opening, and since then for other links
abbrev pub FromTheStart : Type 0
FromTheStart =
    (before : List (List ℕ)) (opening : List ℕ) (s : Socket) (id : ℕ) → Opens (after_all at_first before) opening s id
    → (between : List (List ℕ)) → All (Leaves id) between
    → (ack : List ℕ) → is_frame ack ≡ true → parsed (octets_of ack) ≡ Ok (P.Ack id)
    → (since : List (List ℕ)) → All (Leaves id) since
    → (t : TransactionNumber) → sends Device t ≡ true → (line octets : List ℕ) → Answering line id t octets
    → Recorded (after_all at_first (before ++ (opening ∷ (between ++ (ack ∷ since))))) line s id t octets
