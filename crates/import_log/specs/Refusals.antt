-- EVERY REFUSAL IS TOLD, for any line behind any lines: where the station's call for the line or the reader answers with a refusal, the line writes the
-- `refused` row with that number, but for two repeats; and which lines write nothing. The proofs are `proofs/Refusals.antt`. Quotations are of
-- `docs/IMPORT.md`.
use Rattle.std.specs.Prelude.{ℕ, ◌+◌, ◌*◌, true, false, List, ◌≢◌, ◌↔◌, ◌≡◌, get_or, drop, None, Some, Option, Result, Ok, Err}
use Rattle.links.specs.declared.Answer.{Answer}
use Rattle.pb_adv.specs.declared.Frame.{Frame}
use Rattle.octets.specs.Parts.{part}
use Rattle.hexadecimal.specs.Hex.{octets_of}
use Rattle.transactions.specs.declared.Socket.{Socket}
use Rattle.transactions.specs.declared.TransactionNumber.{TransactionNumber}
use Rattle.pb_adv.specs.Frame.{parsed, refusal_number as frame_number}
use Rattle.pb_adv.specs.declared.Frame.TheVariants as P
use Rattle.pb_adv.specs.declared.Segment.{Segment}
use Rattle.pb_adv.specs.declared.SegmentHeader.TheVariants.{Start}
use Rattle.pb_adv.specs.declared.FrameRefusal.{FrameRefusal}
use Rattle.links.specs.Links.{provisioner, refusal_number}
use Rattle.links.specs.Station.{Station, no_link, received, local_open, local_send, local_close}
use Rattle.links.specs.Promises.{addressed}
use Rattle.links.specs.declared.Side.TheVariants.{Provisioner}
use Rattle.links.specs.declared.Link.{Link}
use Rattle.links.specs.declared.Refusal.{Refusal}
use Rattle.links.specs.declared.Answer.TheVariants as A
use Rattle.provisioning.specs.Message.{message_read, refusal_number as message_number}
use Rattle.provisioning.specs.declared.MessageRefusal.{MessageRefusal}
use Rattle.line_fields.specs.declared.Field.TheVariants as F
use Rattle.stock_table.specs.Rows.{origin_of, unknown, refused_row}
use Rattle.stock_table.specs.declared.Origin.{Origin}
use Rattle.import_tray.specs.Trays.{station_of}
use Rattle.import_frames.specs.Origins.{socket_at, frame_origin}
use Rattle.import_frames.specs.Sent.{sent_of}
use Rattle.import_frames.specs.declared.Asked.{Asked}
use Rattle.import_frames.specs.declared.Asked.TheVariants as Q
use Rattle.log_lines.specs.Lines.{is_frame, is_sent, is_opening, is_passed, socket_in, id_in}
use Rattle.import_log.specs.Logs.{Import, report_in, number_in}
use Rattle.import_log.specs.Records.{Opens}

-- the link records before a line, and what the station does with the frame that it has
abbrev pub links_in : Import → List Link
links_in m = m.log.tray.links

abbrev pub heard_in : Import → List ℕ → Result Answer Refusal × Station
heard_in m line = received provisioner (station_of m.log.tray m.area) (octets_of line)

-- the frame of a line, heard and sent
abbrev pub frame_heard : List ℕ → Result Frame FrameRefusal
frame_heard line = parsed (octets_of line)

abbrev pub frame_sent : List ℕ → Result Frame FrameRefusal
frame_sent line = parsed (octets_of (drop 1 line))

-- where a frame comes from
abbrev pub origin_in : Import → Result Frame FrameRefusal → Origin
origin_in m p = frame_origin (addressed provisioner (links_in m) p) p

-- the line writes the `refused` row with number n
abbrev pub TellsRefusal : Import → List ℕ → Origin → ℕ → Type 0
TellsRefusal m line origin n = report_in m line ≡ Some (refused_row (number_in m) origin n)

-- "Two refusals are repeats [..]: 12 of an acknowledgement heard whose number is one less than the link's next sending number; and 3 of a Close heard."
pub data IsRepeat (ls : List Link) (p : Result Frame FrameRefusal) (n : ℕ) : Type 0 where
  acknowledgement : (id : ℕ) (t : TransactionNumber) (s : ℕ) → p ≡ Ok (P.Acknowledgement id t) → addressed provisioner ls p ≡ Some s → t.0 + 1 ≡ (get_or ls s no_link).next.0
      → n ≡ 12 → IsRepeat ls p n
  close : (id reason : ℕ) → p ≡ Ok (P.Close id reason) → n ≡ 3 → IsRepeat ls p n

-- a Start sent of a message of n octets
pub record StartSent (line : List ℕ) (g : Segment) (n : ℕ) : Type 0 where
  pub marked : is_sent line ≡ true
  pub frame : frame_sent line ≡ Ok (P.Segment g)
  pub check : ℕ
  pub header : g.header ≡ Start n check

pub record RefusalsTold (m : Import) (line : List ℕ) : Type 0 where
  -- "anything else: an argument that is wrong: 11"
  pub wrong : is_frame line ≡ false → is_sent line ≡ false → is_opening line ≡ false → is_passed line ≡ false → TellsRefusal m line unknown 11
  -- an opening
  pub opening : is_opening line ≡ true → (r : Refusal) → (local_open Provisioner (links_in m) (socket_in line) (id_in line)).0 ≡ Err r
      → TellsRefusal m line (origin_of (F.Decimal (socket_in line).0) (F.Number (id_in line)) F.Empty) (refusal_number r)
  -- a frame heard: told but for the two repeats, which write nothing
  pub heard : is_frame line ≡ true → (r : Refusal) → (heard_in m line).0 ≡ Err r → (IsRepeat (links_in m) (frame_heard line) (refusal_number r) → ⊥)
      → TellsRefusal m line (origin_in m (frame_heard line)) (refusal_number r)
  pub repeat : is_frame line ≡ true → (r : Refusal) → (heard_in m line).0 ≡ Err r → IsRepeat (links_in m) (frame_heard line) (refusal_number r)
      → report_in m line ≡ None
  -- a delivered message, by the reader
  pub message : is_frame line ≡ true → (n : ℕ) (t : TransactionNumber) → (heard_in m line).0 ≡ Ok (A.Delivered n t)
      → (s : ℕ) → addressed provisioner (links_in m) (frame_heard line) ≡ Some s
      → (r : MessageRefusal) → message_read (part (heard_in m line).1.area (1469 * s) n) ≡ Err r
      → TellsRefusal m line (origin_in m (frame_heard line)) (message_number r)
  -- a frame sent: "It is taken apart as every frame is (1, 2)"; "a Start: 3 if no record in use has its Link ID", and Send's refusals; and those of a Close
  pub sent_broken : is_sent line ≡ true → (r : FrameRefusal) → frame_sent line ≡ Err r → TellsRefusal m line unknown (frame_number r)
  pub sent_unknown : (g : Segment) (n : ℕ) → StartSent line g n → addressed provisioner (links_in m) (frame_sent line) ≡ None
      → TellsRefusal m line (origin_in m (frame_sent line)) 3
  pub sent_start : (g : Segment) (n : ℕ) → StartSent line g n → (s : ℕ) → addressed provisioner (links_in m) (frame_sent line) ≡ Some s
      → (get_or (links_in m) s no_link).outstanding ≡ false → (get_or (links_in m) s no_link).next ≡ g.number
      → (r : Refusal) → (local_send Provisioner (links_in m) (socket_at s) n).0 ≡ Err r
      → TellsRefusal m line (origin_in m (frame_sent line)) (refusal_number r)
  pub sent_close : is_sent line ≡ true → (id reason : ℕ) → frame_sent line ≡ Ok (P.Close id reason) → (s : ℕ) → addressed provisioner (links_in m) (frame_sent line) ≡ Some s
      → (r : Refusal) → (local_close Provisioner (links_in m) (socket_at s)).0 ≡ Err r
      → TellsRefusal m line (origin_in m (frame_sent line)) (refusal_number r)

abbrev pub EveryRefusal : Type 0
EveryRefusal = (m : Import) (line : List ℕ) → RefusalsTold m line

-- ---- the lines that write nothing

-- an answer is no refusal, and no delivery
abbrev pub NoRefusal : Result Answer Refusal → Type 0
NoRefusal a = (r : Refusal) → a ≢ Err r

abbrev pub NoDelivery : Result Answer Refusal → Type 0
NoDelivery a = (n : ℕ) (t : TransactionNumber) → a ≢ Ok (A.Delivered n t)

-- what a frame sent asks of the records
abbrev pub asked_by : Import → Result Frame FrameRefusal → Result (Option Asked) Refusal
asked_by m p = sent_of (links_in m) (addressed provisioner (links_in m) p) p

-- it asks nothing, or its call is not refused
pub data SentQuiet (m : Import) (p : Result Frame FrameRefusal) : Type 0 where
  asks_nothing : asked_by m p ≡ Ok None → SentQuiet m p
  sends : (s : Socket) (n : ℕ) → asked_by m p ≡ Ok (Some (Q.Send s n)) → NoRefusal (local_send Provisioner (links_in m) s n).0 → SentQuiet m p
  closes : (s : Socket) → asked_by m p ≡ Ok (Some (Q.Close s)) → NoRefusal (local_close Provisioner (links_in m) s).0 → SentQuiet m p

-- passed over, an opening that was done, a frame heard that is neither refused nor delivers, one of the two repeats, or such a frame sent
pub data IsQuiet (m : Import) (line : List ℕ) : Type 0 where
  passed : is_passed line ≡ true → IsQuiet m line
  opens : (s : Socket) (id : ℕ) → Opens m line s id → IsQuiet m line
  heard : is_frame line ≡ true → NoRefusal (heard_in m line).0 → NoDelivery (heard_in m line).0 → IsQuiet m line
  repeats : is_frame line ≡ true → (r : Refusal) → (heard_in m line).0 ≡ Err r → IsRepeat (links_in m) (frame_heard line) (refusal_number r) → IsQuiet m line
  sent : is_sent line ≡ true → SentQuiet m (frame_sent line) → IsQuiet m line

abbrev pub QuietLines : Type 0
QuietLines = (m : Import) (line : List ℕ) → (report_in m line ≡ None) ↔ IsQuiet m line
