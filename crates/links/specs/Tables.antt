-- DOCUMENT 01'S TABLE of a receiving call: each answer with what it is given for, in the order of the checks; and the tables of the local calls. Rows
-- are written from the frame's octets and the records, so that a changed test of the rules is refused; what they share with the rules, as `good`, `find`
-- and the marks, has statements of its own. The proofs are `proofs/Tables.antt`.
use Rattle.std.specs.Prelude.{ℕ, ◌*◌, ◌-◌, Bool, true, false, ◌&&◌, ◌||◌, cond, not, List, [], ◌∷◌, ◌≡◌, leb, ltb, eqb, length, get_or, set, take, Option, Some, None, Result, Ok, Err}
use Rattle.links.specs.declared.Answer.{Answer}
use Rattle.links.specs.declared.Refusal.{Refusal}
use Rattle.transactions.specs.declared.TransactionNumber.{TransactionNumber}
use Rattle.octets.specs.Numbers.{Octets}
use Rattle.octets.specs.Parts.{part, write, same}
use Rattle.octets.specs.Cut.{piece}
use Rattle.octets.specs.Told.{answered}
use Rattle.octets.specs.Tables.{Row, refusal, reply, ByTable}
use Rattle.fcs.specs.Fcs.{check_octet}
use Rattle.transactions.specs.Numbers.{number_after, socket_place}
use Rattle.transactions.specs.Segments.{seg_n, segment_place, segment_length}
use Rattle.transactions.specs.declared.Socket.{Socket}
use Rattle.pb_adv.specs.Frame.{link_id, number_of, high_bits}
use Rattle.pb_adv.specs.Tables.{is_kind, is_control, is_segment, length_in, malformed, unknown_opcode}
use Rattle.links.specs.Marks.{is_marked, with_mark, all_marked}
use Rattle.links.specs.Links.{End, provisioner, device, side_of, find, refusal_number, told}
use Rattle.links.specs.Good.{good}
use Rattle.links.specs.Bad.{blank_record}
use Rattle.links.specs.Segments.{OneLink, marked, begun}
use Rattle.links.specs.Station.{Station, get_link, put_link, is_right, received, link_at, local_open, local_send, local_close}
use Rattle.links.specs.Operations.{Receiver}
use Rattle.links.specs.declared.Side.{Side}
use Rattle.links.specs.declared.Side.TheVariants.{Provisioner, Device}
use Rattle.links.specs.declared.LinkState.{LinkState}
use Rattle.links.specs.declared.LinkState.TheVariants as S
use Rattle.links.specs.declared.HalfMessage.{HalfMessage}
use Rattle.links.specs.declared.Link.{Link}
use Rattle.links.specs.declared.Answer.TheVariants as A

-- ---- 11, 14, 3, and what a frame is judged by

-- "area length": 1,469 octets for each record
abbrev pub wrong_area : Station → Bool
wrong_area σ = not (eqb (length σ.area) (1469 * length σ.links))

-- "an argument is wrong": at a device's end also another number of records than "one session" has, and the "UUID length"
abbrev pub wrong_argument : End → Station → Bool
wrong_argument provisioner σ = wrong_area σ
wrong_argument (device own) σ = wrong_area σ || (not (eqb (length σ.links) 1) || not (eqb (length own) 16))

-- "the state passed in is bad (below)"; the sentences below are those of `Bad.antt`
abbrev pub bad_state : Side → List Link → Bool
bad_state side ls = not (good side ls)

abbrev pub is_free : LinkState → Bool
is_free S.Free = true
is_free S.Opening = false
is_free S.Open = false

-- "Link ID in use": a record in use has it
abbrev pub is_id_in_use : List Link → ℕ → Bool
is_id_in_use [] id = false
is_id_in_use (l ∷ ls) id = (not (is_free l.state) && eqb l.id id) || is_id_in_use ls id

-- an Open that comes to a device: it "skips 3 to 5"
abbrev pub is_device_open : End → List ℕ → Bool
is_device_open provisioner f = false
is_device_open (device own) f = is_control 0 f

-- "Link ID of no record in use"
abbrev pub unknown_link : End → Station → List ℕ → Bool
unknown_link end σ f = not (is_device_open end f) && not (is_id_in_use σ.links (link_id f))

-- the record that a frame is judged by: the one of its Link ID; for an Open that comes to a device, its one record
abbrev pub place_for : End → List Link → List ℕ → Option ℕ
place_for end ls f = cond (is_device_open end f) (Some 0) (find ls (link_id f))

-- the link of it
abbrev pub link_found : Station → Option ℕ → OneLink
link_found σ (Some s) = get_link s σ
link_found σ None = get_link (length σ.links) σ

-- ---- "an Open .. gets 15 (other UUID), then 16 (busy with another link)"

-- "other UUID": the 16 octets behind the opcode are not the device's own
abbrev pub other_uuid : End → List ℕ → Bool
other_uuid provisioner f = false
other_uuid (device own) f = is_control 0 f && not (same (part f 6 16) own)

-- "busy with another link"
abbrev pub is_busy : End → Link → List ℕ → Bool
is_busy provisioner l f = false
is_busy (device own) l f = is_control 0 f && (not (is_free l.state) && not (eqb l.id (link_id f)))

-- ---- 4, 5 and 12

abbrev pub is_opening : LinkState → Bool
is_opening S.Free = false
is_opening S.Opening = true
is_opening S.Open = false

-- "link opening, and the frame is neither Ack nor Close"
abbrev pub not_open : LinkState → List ℕ → Bool
not_open state f = is_opening state && not (is_control 1 f || is_control 2 f)

-- "a segment below 0x80, an acknowledgement above 0x7F, or an Open"; at a device's end with "the two halves exchanged", and "an Ack gets 5"
abbrev pub wrong_direction : Side → List ℕ → Bool
wrong_direction Provisioner f = (is_segment f && ltb (number_of f).0 0x80) || ((is_kind 1 f && ltb 0x7F (number_of f).0) || is_control 0 f)
wrong_direction Device f = (is_segment f && ltb 0x7F (number_of f).0) || ((is_kind 1 f && ltb (number_of f).0 0x80) || is_control 1 f)

-- what opens a link: an Ack at the provisioner's end, an Open at a device's
abbrev pub is_opener : Side → List ℕ → Bool
is_opener Provisioner f = is_control 1 f
is_opener Device f = is_control 0 f

-- and the state of a record that it opens
abbrev pub is_unopened : Side → LinkState → Bool
is_unopened Provisioner state = is_opening state
is_unopened Device state = is_free state

-- "acknowledgement of a number not outstanding"
abbrev pub not_outstanding : Link → List ℕ → Bool
not_outstanding l f = is_kind 1 f && not (l.outstanding && eqb l.next.0 (number_of f).0)

-- ---- what a segment carries

-- its number in the message: 0 in a Start, the high bits in a Continuation
abbrev pub index_in : List ℕ → ℕ
index_in f = cond (is_kind 0 f) 0 (high_bits f)

-- its octets, behind the header
abbrev pub octets_in : List ℕ → List ℕ
octets_in f = cond (is_kind 0 f) (part f 9 (length f - 9)) (part f 6 (length f - 6))

-- the check octet in a Start
abbrev pub check_in : List ℕ → ℕ
check_in f = get_or f 8 0

-- ---- "acknowledge again", 6, 7, 8, and what a good segment answers

-- "a segment with the link's last delivered number"
abbrev pub has_last_number : Option TransactionNumber → List ℕ → Bool
has_last_number None f = false
has_last_number (Some t) f = eqb t.0 (number_of f).0

abbrev pub is_last_delivered : Option TransactionNumber → List ℕ → Bool
is_last_delivered last f = is_segment f && has_last_number last f

-- there is a "half-received message of its number"
abbrev pub has_number : Option HalfMessage → List ℕ → Bool
has_number None f = false
has_number (Some h) f = eqb h.number.0 (number_of f).0

-- the message that a segment is of: the half-received one of its number, or the one that a Start begins
abbrev pub message_of : Option HalfMessage → List ℕ → HalfMessage
message_of None f = begun (number_of f) (length_in f) (check_in f)
message_of (Some h) f = cond (has_number (Some h) f) h (begun (number_of f) (length_in f) (check_in f))

-- "Continuation with no half-received message of its number"
abbrev pub not_begun : Option HalfMessage → List ℕ → Bool
not_begun half f = is_kind 2 f && not (has_number half f)

-- "other L, check" in a Start
abbrev pub other_start : HalfMessage → List ℕ → Bool
other_start h f = is_kind 0 f && not (eqb h.length (length_in f) && eqb h.check (check_in f))

-- of a segment k with octets d, where h says what is in of its message: "segment above SegN; wrong segment length"
abbrev pub is_unfit : HalfMessage → ℕ → List ℕ → Bool
is_unfit h k d = not (leb k (seg_n h.length) && eqb (length d) (segment_length h.length k))

-- other "octets in a repeat": unlike those at the segment's place
abbrev pub other_octets : OneLink → HalfMessage → ℕ → List ℕ → Bool
other_octets x h k d = is_marked h.marks k && not (same (piece segment_place h.length x.part k) d)

-- "the last missing segment is in"
abbrev pub is_last_missing : HalfMessage → ℕ → Bool
is_last_missing h k = not (is_marked h.marks k) && all_marked (seg_n h.length) (with_mark h.marks k)

-- "the check octet differs", over the message with the segment at its place
abbrev pub other_check : OneLink → HalfMessage → ℕ → List ℕ → Bool
other_check x h k d = not (eqb (check_octet (take h.length (write x.part (segment_place k) d))) h.check)

-- "same number, but other L, check or octets in a repeat; segment above SegN; wrong segment length"
abbrev pub mismatches : OneLink → Option HalfMessage → HalfMessage → List ℕ → Bool
mismatches x half h f =
    is_segment f && (has_number half f && (other_start h f || (is_unfit h (index_in f) (octets_in f) || other_octets x h (index_in f) (octets_in f))))

-- "the last missing segment is in and the check octet differs"
abbrev pub wrong_check : OneLink → HalfMessage → List ℕ → Bool
wrong_check x h f = is_segment f && (is_last_missing h (index_in f) && other_check x h (index_in f) (octets_in f))

-- "a message complete", and checked where 8 was not given
abbrev pub is_complete : HalfMessage → List ℕ → Bool
is_complete h f = is_segment f && is_last_missing h (index_in f)

-- "a repeat", with equal octets where 7 was not given
abbrev pub is_repeat : HalfMessage → List ℕ → Bool
is_repeat h f = is_segment f && is_marked h.marks (index_in f)

-- ---- THE TABLE

abbrev pub receiving_rows : End → Station → List ℕ → List Row
receiving_rows end σ f =
    let x = link_found σ (place_for end σ.links f) in
    let l = x.link in
    let h = message_of l.half f in
    refusal 11 (wrong_argument end σ)
    ∷ refusal 14 (bad_state (side_of end) σ.links)
    ∷ refusal 1 (malformed f)
    ∷ refusal 2 (unknown_opcode f)
    -- "on this side an Open skips 3 to 5 and gets 15 (other UUID), then 16 (busy with another link), after 2"
    ∷ refusal 15 (other_uuid end f)
    ∷ refusal 16 (is_busy end l f)
    ∷ refusal 3 (unknown_link end σ f)
    ∷ refusal 4 (not_open l.state f)
    ∷ refusal 5 (wrong_direction (side_of end) f)
    ∷ refusal 12 (not_outstanding l f)
    -- "After 5 a segment with the link's last delivered number answers 'acknowledge again' and changes nothing, whatever it carries."
    ∷ reply "acknowledge again" [] (is_last_delivered l.last f)
    ∷ refusal 6 (not_begun l.half f)
    ∷ refusal 7 (mismatches x l.half h f)
    ∷ refusal 8 (wrong_check x h f)
    -- "A message complete and checked answers 'delivered' with length and number", "a repeat with equal octets answers 'repeat'", "a new segment that
    -- leaves others missing answers 'kept'"
    ∷ reply "delivered" (h.length ∷ h.number.0 ∷ []) (is_complete h f)
    ∷ reply "repeat" [] (is_repeat h f)
    ∷ reply "kept" [] (is_segment f)
    -- "An awaited acknowledgement .. answers 'acknowledged'."
    ∷ reply "acknowledged" [] (is_kind 1 f)
    -- "Ack opens an opening link ('opened'), and on an open one answers 'already'", and so does an Open at a device's end. "Close frees the record in
    -- either state and gives the reason."
    ∷ reply "opened" [] (is_unopened (side_of end) l.state && is_opener (side_of end) f)
    ∷ reply "already" [] (is_opener (side_of end) f)
    ∷ reply "closed" (get_or f 6 0 ∷ []) (is_control 2 f)
    ∷ []

-- any octets, on any call; stated of any receiver, and document 01's rules, `received`, meet it
abbrev pub ReceivingTable : Receiver → Type 0
ReceivingTable receive = (end : End) (σ : Station) (f : List ℕ) → Octets f → ByTable (told (receive end σ f).0) (receiving_rows end σ f)

-- ---- WHAT EACH ANSWER LEAVES of the link that the frame is for; no other link and no other part of the area changes

-- a record that its opener opens: the opening one, or a blank one with the Link ID of the Open
abbrev pub opened_record : Side → Link → ℕ → Link
opened_record Provisioner l id = record { state = S.Open; id = l.id; next = l.next; outstanding = l.outstanding; last = l.last; half = l.half }
opened_record Device l id = blank_record Device S.Open id

-- a frame with a Link ID, and segment k with octets d, of a message of which h says what is in
module _ (side : Side) (x : OneLink) (id : ℕ) (h : HalfMessage) (k : ℕ) (d : List ℕ) where
  abbrev pub before : Link
  before = x.link

  -- a record with the part as it was
  abbrev pub part_stays : Link → OneLink
  part_stays l = record { link = l; part = x.part }

  -- a segment leaves of the record all but the last delivered number and the half-received message; its octets stand at "place 20 + 23(k - 1)", those
  -- of segment 0 at "the start of the socket's part"
  abbrev pub with_segment : Option TransactionNumber → Option HalfMessage → OneLink
  with_segment last half = record {
    link = record { state = before.state; id = before.id; next = before.next; outstanding = before.outstanding; last = last; half = half };
    part = write x.part (segment_place k) d;
  }

  abbrev pub leaves_by : Result Answer Refusal → OneLink
  -- "Refusal 8 clears it too, the octets, the last segment's among them, stay written, and the last delivered number stays. Every other refusal
  -- changes nothing."
  leaves_by (Err r) = cond (eqb (refusal_number r) 8) (with_segment before.last None) x
  leaves_by (Ok A.AcknowledgeAgain) = x
  leaves_by (Ok A.Kept) = with_segment before.last (Some (marked h k))
  leaves_by (Ok A.Repeat) = x
  -- "the half-received record is cleared"; the number is the last delivered
  leaves_by (Ok (A.Delivered n t)) = with_segment (Some t) None
  leaves_by (Ok A.Opened) = part_stays (opened_record side before id)
  leaves_by (Ok A.Already) = x
  leaves_by (Ok (A.Closed reason)) = part_stays (blank_record side S.Free 0)
  -- it "clears the outstanding mark, steps the number"
  leaves_by (Ok A.Acknowledged) =
      part_stays (record { state = before.state; id = before.id; next = number_after before.next; outstanding = false; last = before.last; half = before.half })
  -- answers of the local calls
  leaves_by (Ok (A.Sending t n)) = x
  leaves_by (Ok A.Done) = x

abbrev pub leaves : Side → OneLink → List ℕ → Result Answer Refusal → OneLink
leaves side x f a = leaves_by side x (link_id f) (message_of x.link.half f) (index_in f) (octets_in f) a

-- past 11 and 14
abbrev pub ReceivingLeaves : Type 0
ReceivingLeaves =
    (end : End) (σ : Station) (f : List ℕ) → is_right end σ ≡ true → good (side_of end) σ.links ≡ true
    → (s : ℕ) → place_for end σ.links f ≡ Some s → (received end σ f).1 ≡ put_link s (leaves (side_of end) (get_link s σ) f (received end σ f).0) σ

-- ---- the local calls

-- "socket": not 1 to the number of records
abbrev pub wrong_socket : List Link → Socket → Bool
wrong_socket ls s = not (leb 1 s.0 && leb s.0 (length ls))

-- "message .. length": not 1 to 1,469
abbrev pub wrong_length : ℕ → Bool
wrong_length n = not (leb 1 n && leb n 1469)

-- "Open: 11, then 9 socket in use, then 10 Link ID in use"
abbrev pub open_rows : Side → List Link → Socket → ℕ → List Row
open_rows side ls s id =
    refusal 11 (wrong_socket ls s)
    ∷ refusal 14 (bad_state side ls)
    ∷ refusal 9 (not (is_free (link_at ls s).state))
    ∷ refusal 10 (is_id_in_use ls id)
    ∷ reply "done" [] true
    ∷ []

-- "Send: 11, 4 (not open), 13 (one outstanding)", of a message of n octets; "it .. gives the number and SegN"
abbrev pub send_rows : Side → List Link → Socket → ℕ → List Row
send_rows side ls s n =
    refusal 11 (wrong_socket ls s || wrong_length n)
    ∷ refusal 14 (bad_state side ls)
    ∷ refusal 4 (is_free (link_at ls s).state || is_opening (link_at ls s).state)
    ∷ refusal 13 (link_at ls s).outstanding
    ∷ reply "sending" ((link_at ls s).next.0 ∷ seg_n n ∷ []) true
    ∷ []

-- "Close: 11, 4 (free)"
abbrev pub close_rows : Side → List Link → Socket → List Row
close_rows side ls s =
    refusal 11 (wrong_socket ls s)
    ∷ refusal 14 (bad_state side ls)
    ∷ refusal 4 (is_free (link_at ls s).state)
    ∷ reply "done" [] true
    ∷ []

-- a record with one message outstanding
abbrev pub with_mark_set : Link → Link
with_mark_set l = record { state = l.state; id = l.id; next = l.next; outstanding = true; last = l.last; half = l.half }

-- the local Open, which a device's end doesn't have; it leaves an opening record, and no other record changes
pub record OpenTables (ls : List Link) (s : Socket) : Type 0 where
  pub opening : (id : ℕ) → ByTable (told (local_open Provisioner ls s id).0) (open_rows Provisioner ls s id)
  pub opened : (id : ℕ) → told (local_open Provisioner ls s id).0 ≡ answered "done" []
      → (local_open Provisioner ls s id).1 ≡ set ls (socket_place s) (blank_record Provisioner S.Opening id)

pub record LocalTables (side : Side) (ls : List Link) (s : Socket) : Type 0 where
  pub sending : (n : ℕ) → ByTable (told (local_send side ls s n).0) (send_rows side ls s n)
  pub closing : ByTable (told (local_close side ls s).0) (close_rows side ls s)
  -- a Send "sets the mark", a Close "frees the record"; no other record changes
  pub sent : (n : ℕ) (values : List ℕ) → told (local_send side ls s n).0 ≡ answered "sending" values
      → (local_send side ls s n).1 ≡ set ls (socket_place s) (with_mark_set (link_at ls s))
  pub closed : told (local_close side ls s).0 ≡ answered "done" [] → (local_close side ls s).1 ≡ set ls (socket_place s) (blank_record side S.Free 0)
