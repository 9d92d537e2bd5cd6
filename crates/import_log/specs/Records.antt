-- EVERY RECORD IS TRUE, for any log: whatever the lines are, a row of a Capabilities message is written by the line of that message's one frame, with the
-- Link ID of the latest opening of its socket, and each field is that of the frame's own octets. The proofs are `proofs/Records.antt`. Quotations are of
-- `docs/IMPORT.md`.
use Rattle.std.specs.Prelude.{ℕ, ◌+◌, ◌<◌, Bool, true, false, ◌≢◌, ◌↔◌, ◌≡◌, length, get_or, Some, Ok, None}
use mathlib.Core.List.{List, [], ◌∷◌, ◌++◌, Memᴰ}
use Rattle.octets.specs.Numbers.{big16}
use Rattle.octets.specs.Told.{answered}
use Rattle.hexadecimal.specs.Hex.{octets_of}
use Rattle.transactions.specs.declared.Socket.{Socket}
use Rattle.transactions.specs.declared.TransactionNumber.{TransactionNumber}
use Rattle.pb_adv_writing.specs.Writing.{segment_frame, message_frames}
use Rattle.links.specs.Links.{told}
use Rattle.links.specs.Station.{local_open}
use Rattle.links.specs.declared.Side.TheVariants.{Provisioner}
use Rattle.provisioning.specs.Message.{message_read}
use Rattle.provisioning.specs.declared.Capabilities.{Capabilities}
use Rattle.provisioning.specs.declared.Message.TheVariants as M
use Rattle.line_fields.specs.declared.Word.{Word}
use Rattle.line_fields.specs.declared.Word.TheVariants as W
use Rattle.line_fields.specs.declared.Field.TheVariants as F
use Rattle.stock_table.specs.Rows.{origin_of, record_row, message_row}
use Rattle.stock_table.specs.declared.Origin.{Origin}
use Rattle.stock_table.specs.declared.Row.{Row}
use Rattle.import_messages.specs.Messages.{reading_of}
use Rattle.log_lines.specs.Lines.{is_frame, is_opening, socket_in, id_in}
use Rattle.import_log.specs.Logs.{Import, report_in, after_all, at_first, number_in}

-- ---- openings

-- a line opens socket s with a Link ID: "an opening line that was not refused"
pub record Opens (m : Import) (line : List ℕ) (s : Socket) (id : ℕ) : Type 0 where
  pub form : is_opening line ≡ true
  pub socket : socket_in line ≡ s
  pub link_id : id_in line ≡ id
  pub done : told (local_open Provisioner m.log.tray.links s id).0 ≡ answered "done" []

-- the latest opening of socket s by lines from the start was with a Link ID
pub record LatestOpening (lines : List (List ℕ)) (s : Socket) (id : ℕ) : Type 0 where
  pub before : List (List ℕ)
  pub opening : List ℕ
  pub since : List (List ℕ)
  pub split : lines ≡ before ++ (opening ∷ since)
  pub opens : Opens (after_all at_first before) opening s id
  pub latest : (between : List (List ℕ)) (line : List ℕ) (rest : List (List ℕ)) → since ≡ between ++ (line ∷ rest)
      → (other : ℕ) → Opens (after_all at_first (before ++ (opening ∷ between))) line s other → ⊥

-- ---- the rows of a Capabilities message

-- the fields that the octets of a Capabilities message have at their places
abbrev pub fields_of : List ℕ → Capabilities
fields_of m = record {
  elements = get_or m 1 0;
  algorithms = big16 m 2;
  public_key_type = get_or m 4 0;
  static_oob_type = get_or m 5 0;
  output_oob_size = get_or m 6 0;
  output_oob_action = big16 m 7;
  input_oob_size = get_or m 9 0;
  input_oob_action = big16 m 10;
}

-- the origin that a row of a message shows
abbrev pub message_origin : Socket → ℕ → TransactionNumber → Origin
message_origin s id t = origin_of (F.Decimal s.0) (F.Number id) (F.Octet t.0)

-- `record`, `repeated` and `conflict`
abbrev pub is_record_word : Word → Bool
is_record_word W.Record = true
is_record_word W.Repeated = true
is_record_word W.Conflict = true
is_record_word W.Message = false
is_record_word W.Refused = false
is_record_word W.Missing = false
is_record_word W.Unopened = false
is_record_word W.End = false
is_record_word W.Invite = false
is_record_word W.Capabilities = false
is_record_word W.Start = false
is_record_word W.PublicKey = false
is_record_word W.InputComplete = false
is_record_word W.Confirmation = false
is_record_word W.Random = false
is_record_word W.Data = false
is_record_word W.Complete = false
is_record_word W.Failed = false

-- such a row, by a line behind others, is that of a Capabilities message m: the line is the hexadecimal text of the one frame of m's cut under a Link ID
-- and a number; the latest opening of the socket has that Link ID; the reader accepts m; and m's octets are those of the line behind the nine of the
-- frame's header
pub record IsTrue (before : List (List ℕ)) (line : List ℕ) (row : Row) : Type 0 where
  pub socket : Socket
  pub id : ℕ
  pub number : TransactionNumber
  pub octets : List ℕ
  pub is_hexadecimal : is_frame line ≡ true
  pub frame : octets_of line ≡ segment_frame id number octets 0
  pub alone : message_frames id number octets ≡ octets_of line ∷ []
  pub opened : LatestOpening before socket id
  pub accepted : message_read octets ≡ Ok (M.Capabilities (fields_of octets))
  pub long : length octets ≡ 12
  pub places : (i : ℕ) → i < 12 → get_or octets i 0 ≡ get_or (octets_of line) (9 + i) 0
  pub shown : row ≡ record_row row.what (number_in (after_all at_first before)) (message_origin socket id number) (fields_of octets)

abbrev pub EveryRecord : Type 0
EveryRecord =
    (before : List (List ℕ)) (line : List ℕ) (row : Row) → report_in (after_all at_first before) line ≡ Some row → is_record_word row.what ≡ true
    → IsTrue before line row

-- ---- one record for an opening

-- a line writes the record of socket s
pub record RecordsAt (m : Import) (line : List ℕ) (s : Socket) : Type 0 where
  pub row : Row
  pub writes : report_in m line ≡ Some row
  pub is_record : row.what ≡ W.Record
  pub socket : row.origin.socket ≡ F.Decimal s.0

-- between two records of a socket it was opened
pub record OpenedBetween (before between : List (List ℕ)) (s : Socket) : Type 0 where
  pub front : List (List ℕ)
  pub opening : List ℕ
  pub rest : List (List ℕ)
  pub id : ℕ
  pub split : between ≡ front ++ (opening ∷ rest)
  pub opens : Opens (after_all at_first (before ++ front)) opening s id

abbrev pub OneRecord : Type 0
OneRecord =
    (before : List (List ℕ)) (first : List ℕ) (between : List (List ℕ)) (second : List ℕ) (s : Socket)
    → RecordsAt (after_all at_first before) first s → RecordsAt (after_all at_first (before ++ (first ∷ between))) second s
    → OpenedBetween (before ++ (first ∷ [])) between s

-- ---- further messages: `repeated` and `conflict`

-- a line since an opening wrote the record of its socket, with fields c
pub record RecordedSince {lines : List (List ℕ)} {s : Socket} {id : ℕ} (o : LatestOpening lines s id) (c : Capabilities) : Type 0 where
  pub between : List (List ℕ)
  pub line : List ℕ
  pub rest : List (List ℕ)
  pub split : o.since ≡ between ++ (line ∷ rest)
  pub records : RecordsAt (after_all at_first (o.before ++ (o.opening ∷ between))) line s
  pub stated : records.row.stated ≡ Some c

-- such a row comes behind the record since the latest opening of its socket: `repeated` if its fields are those of the record, `conflict` if they are not
pub record FurtherIsTrue (before : List (List ℕ)) (line : List ℕ) (row : Row) : Type 0 where
  pub is_true : IsTrue before line row
  pub fields : Capabilities
  pub recorded : RecordedSince is_true.opened fields
  pub repeated : (row.what ≡ W.Repeated) ↔ (fields_of is_true.octets ≡ fields)
  pub conflict : (row.what ≡ W.Conflict) ↔ (fields_of is_true.octets ≢ fields)

abbrev pub EveryFurther : Type 0
EveryFurther =
    (before : List (List ℕ)) (line : List ℕ) (row : Row) → report_in (after_all at_first before) line ≡ Some row → is_record_word row.what ≡ true
    → row.what ≢ W.Record → FurtherIsTrue before line row

-- ---- the rows of other messages

-- octets were heard in one of the lines
pub record HeardIn (lines : List (List ℕ)) (f : List ℕ) : Type 0 where
  pub line : List ℕ
  pub among : Memᴰ line lines
  pub is_hexadecimal : is_frame line ≡ true
  pub octets : octets_of line ≡ f

-- a `message` row is that of a message m that came by its cut: every frame of the cut was heard since the latest opening of the socket, in a line up to
-- this one, which is a frame of it; and the reader accepts m, as no Capabilities message
pub record MessageIsTrue (before : List (List ℕ)) (line : List ℕ) (row : Row) : Type 0 where
  pub socket : Socket
  pub id : ℕ
  pub number : TransactionNumber
  pub octets : List ℕ
  pub is_hexadecimal : is_frame line ≡ true
  pub opened : LatestOpening before socket id
  pub cut : (f : List ℕ) → Memᴰ f (message_frames id number octets) → HeardIn (opened.since ++ (line ∷ [])) f
  pub last : Memᴰ (octets_of line) (message_frames id number octets)
  pub accepted : reading_of (message_read octets) ≡ Ok None
  pub shown : row ≡ message_row (number_in (after_all at_first before)) (message_origin socket id number) (message_read octets)

abbrev pub EveryMessage : Type 0
EveryMessage =
    (before : List (List ℕ)) (line : List ℕ) (row : Row) → report_in (after_all at_first before) line ≡ Some row → row.what ≡ W.Message
    → MessageIsTrue before line row
