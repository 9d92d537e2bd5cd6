-- The station: link records, as many as there are sockets, and one area with 1,469 octets for each, or a device's one record and its area; the receiving
-- call and the local calls.
use Rattle.std.specs.Prelude.{ℕ, ◌*◌, Bool, true, false, ◌&&◌, cond, List, eqb, length, get_or, set, Option, Some, None, Result, Ok, Err}
use Rattle.links.specs.declared.Answer.{Answer}
use Rattle.pb_adv.specs.declared.Frame.{Frame}
use Rattle.octets.specs.Parts.{part, write, same}
use Rattle.octets.specs.Lengths.{is_length}
use Rattle.transactions.specs.Numbers.{number_after, is_socket, socket_place}
use Rattle.transactions.specs.Segments.{seg_n}
use Rattle.pb_adv.specs.Frame.{is_uuid, parsed}
use Rattle.transactions.specs.declared.TransactionNumber.{TransactionNumber}
use Rattle.transactions.specs.declared.Socket.{Socket}
use Rattle.pb_adv.specs.declared.FrameRefusal.{FrameRefusal}
use Rattle.pb_adv.specs.declared.FrameRefusal.TheVariants as F
use Rattle.pb_adv.specs.declared.Frame.TheVariants as P
use Rattle.links.specs.Links.{peer, End, provisioner, device, side_of, sends, blank, blank_with, with_state, with_sending, in_use, find}
use Rattle.links.specs.Good.{good}
use Rattle.links.specs.Segments.{OneLink, segment_step}
use Rattle.links.specs.declared.Side.{Side}
use Rattle.links.specs.declared.Side.TheVariants.{Provisioner, Device}
use Rattle.links.specs.declared.LinkState.{LinkState}
use Rattle.links.specs.declared.LinkState.TheVariants as S
use Rattle.links.specs.declared.Link.{Link}
use Rattle.links.specs.declared.Refusal.{Refusal}
use Rattle.links.specs.declared.Refusal.TheVariants as R
use Rattle.links.specs.declared.Answer.TheVariants as A

pub record Station : Type 0 where
  pub links : List Link
  pub area : List ℕ

-- ---- one socket's record and part

-- what is read past the last record
abbrev pub no_link : Link
no_link = blank Provisioner

unfoldable pub get_link : ℕ → Station → OneLink
get_link s σ = record { link = get_or σ.links s no_link; part = part σ.area (1469 * s) 1469 }

unfoldable pub put_link : ℕ → OneLink → Station → Station
put_link s x σ = record { links = set σ.links s x.link; area = write σ.area (1469 * s) x.part }

-- a socket's link with its part
abbrev pub of_socket : Socket → Station → OneLink
of_socket s σ = get_link (socket_place s) σ

-- ---- one link and a frame for it

abbrev pub set_link : OneLink → Link → OneLink
set_link x l = record { link = l; part = x.part }

-- 12, or "acknowledged": the outstanding mark is cleared and the number steps
unfoldable pub acknowledgement_step : OneLink → TransactionNumber → Result Answer Refusal × OneLink
acknowledgement_step x t =
    cond (x.link.outstanding && eqb x.link.next.0 t.0)
    (Ok A.Acknowledged, set_link x (with_sending x.link (number_after t) false))
    (Err R.NotOutstanding, x)

-- an Ack: "on an open one answers 'already'"; at a device's end "an Ack gets 5"
abbrev pub ack_step : Side → OneLink → Result Answer Refusal × OneLink
ack_step Provisioner x = (Ok A.Already, x)
ack_step Device x = (Err R.WrongDirection, x)

-- document 01's refusal of octets that are no frame
abbrev pub frame_refusal : FrameRefusal → Refusal
frame_refusal F.Malformed = R.Malformed
frame_refusal F.UnknownOpcode = R.UnknownOpcode

-- what a frame f, parsed as p, does at a link of its Link ID, by the link's state: 4, 5, then what the frame is for. A device's end takes an Open before
-- it comes here
unfoldable pub frame_step : Side → OneLink → LinkState → List ℕ → Result Frame FrameRefusal → Result Answer Refusal × OneLink
frame_step side x S.Free f p = (Err R.UnknownLink, x)
frame_step side x S.Opening f (Ok (P.Segment s)) = (Err R.NotOpen, x)
frame_step side x S.Opening f (Ok (P.Acknowledgement id t)) = (Err R.NotOpen, x)
frame_step side x S.Opening f (Ok (P.Open id uuid)) = (Err R.NotOpen, x)
frame_step side x S.Opening f (Ok (P.Ack id)) = (Ok A.Opened, set_link x (with_state x.link S.Open))
frame_step side x S.Opening f (Ok (P.Close id reason)) = (Ok (A.Closed reason), set_link x (blank side))
frame_step side x S.Opening f (Err r) = (Err (frame_refusal r), x)
frame_step side x S.Open f (Ok (P.Segment s)) =
    cond (sends (peer side) s.number) (segment_step x s.number s.header (part f s.from s.count)) (Err R.WrongDirection, x)
frame_step side x S.Open f (Ok (P.Acknowledgement id t)) = cond (sends side t) (acknowledgement_step x t) (Err R.WrongDirection, x)
frame_step side x S.Open f (Ok (P.Open id uuid)) = (Err R.WrongDirection, x)
frame_step side x S.Open f (Ok (P.Ack id)) = ack_step side x
frame_step side x S.Open f (Ok (P.Close id reason)) = (Ok (A.Closed reason), set_link x (blank side))
frame_step side x S.Open f (Err r) = (Err (frame_refusal r), x)

-- ---- the receiving call

-- 3, or the link's step
abbrev pub at_socket : Side → Station → Option ℕ → List ℕ → Result Frame FrameRefusal → Result Answer Refusal × Station
at_socket side σ None f p = (Err R.UnknownLink, σ)
at_socket side σ (Some s) f p =
    let r : Result Answer Refusal × OneLink = frame_step side (get_link s σ) (get_link s σ).link.state f p in
    (r.0, put_link s r.1 σ)

-- an Open with a Link ID, its UUID from a place of the frame on, at the link of a device: 15 for another UUID than its own, 16 while it is "busy
-- with another link"; "opened" by its own UUID, and "another such Open for the same Link ID answers 'already' and changes nothing"
unfoldable pub open_step : List ℕ → OneLink → List ℕ → ℕ → ℕ → Result Answer Refusal × OneLink
open_step own x f id uuid =
    cond (same (part f uuid 16) own)
    (cond (in_use x.link.state)
    (cond (eqb x.link.id id) (Ok A.Already, x) (Err R.Busy, x))
    (Ok A.Opened, set_link x (blank_with Device S.Open id)))
    (Err R.OtherUuid, x)

-- an Open, by the end: at a device's it "skips 3 to 5", and comes to the one record, whatever its Link ID
abbrev pub on_open : End → Station → List ℕ → ℕ → ℕ → Result Answer Refusal × Station
on_open provisioner σ f id uuid = at_socket Provisioner σ (find σ.links id) f (Ok (P.Open id uuid))
on_open (device own) σ f id uuid =
    let r : Result Answer Refusal × OneLink = open_step own (get_link 0 σ) f id uuid in
    (r.0, put_link 0 r.1 σ)

-- 1 and 2, or the record of the frame's Link ID
abbrev pub on_frame : End → Station → List ℕ → Result Frame FrameRefusal → Result Answer Refusal × Station
on_frame end σ f (Ok (P.Segment s)) = at_socket (side_of end) σ (find σ.links s.id) f (Ok (P.Segment s))
on_frame end σ f (Ok (P.Acknowledgement id t)) = at_socket (side_of end) σ (find σ.links id) f (Ok (P.Acknowledgement id t))
on_frame end σ f (Ok (P.Open id uuid)) = on_open end σ f id uuid
on_frame end σ f (Ok (P.Ack id)) = at_socket (side_of end) σ (find σ.links id) f (Ok (P.Ack id))
on_frame end σ f (Ok (P.Close id reason)) = at_socket (side_of end) σ (find σ.links id) f (Ok (P.Close id reason))
on_frame end σ f (Err r) = (Err (frame_refusal r), σ)

-- right arguments: an area of 1,469 octets for each record; a device has one record, and a UUID of 16 octets
abbrev pub is_right : End → Station → Bool
is_right provisioner σ = eqb (length σ.area) (1469 * length σ.links)
is_right (device own) σ = eqb (length σ.area) (1469 * length σ.links) && (eqb (length σ.links) 1 && is_uuid own)

-- RECEIVING A FRAME: 11 a wrong argument, 14 a bad state, then the frame
unfoldable pub received : End → Station → List ℕ → Result Answer Refusal × Station
received end σ f =
    cond (is_right end σ)
    (cond (good (side_of end) σ.links) (on_frame end σ f (parsed f)) (Err R.BadState, σ))
    (Err R.WrongArgument, σ)

-- ---- the local calls, over the records alone

-- the record of a socket, and the records with it changed
abbrev pub link_at : List Link → Socket → Link
link_at ls s = get_or ls (socket_place s) no_link

abbrev pub with_link : List Link → Socket → Link → List Link
with_link ls s l = set ls (socket_place s) l

-- a step of a socket's record
abbrev pub at_record : List Link → Socket → Result Answer Refusal × Link → Result Answer Refusal × List Link
at_record ls s r = (r.0, with_link ls s r.1)

-- 11 a wrong argument, 14 a bad state, then the call's own step
abbrev pub judged : Side → List Link → Bool → Result Answer Refusal × List Link → Result Answer Refusal × List Link
judged side ls right step = cond right (cond (good side ls) step (Err R.BadState, ls)) (Err R.WrongArgument, ls)

-- a Link ID that is in use
abbrev pub is_found : Option ℕ → Bool
is_found (Some s) = true
is_found None = false

-- "Open: 11, then 9 socket in use, then 10 Link ID in use"
abbrev pub open_at : Side → List Link → Socket → ℕ → Result Answer Refusal × List Link
open_at side ls s id =
    cond (in_use (link_at ls s).state) (Err R.SocketInUse, ls)
    (cond (is_found (find ls id)) (Err R.LinkIdInUse, ls)
    (Ok A.Done, with_link ls s (blank_with side S.Opening id)))

unfoldable pub local_open : Side → List Link → Socket → ℕ → Result Answer Refusal × List Link
local_open side ls s id = judged side ls (is_socket s (length ls)) (open_at side ls s id)

abbrev pub is_open : LinkState → Bool
is_open S.Free = false
is_open S.Opening = false
is_open S.Open = true

-- "Send: 11, 4 (not open), 13 (one outstanding); it sets the mark and gives the number and SegN", for a message of n octets
abbrev pub send_step : Link → ℕ → Result Answer Refusal × Link
send_step l n =
    cond (is_open l.state)
    (cond l.outstanding (Err R.Outstanding, l) (Ok (A.Sending l.next (seg_n n)), with_sending l l.next true))
    (Err R.NotOpen, l)

unfoldable pub local_send : Side → List Link → Socket → ℕ → Result Answer Refusal × List Link
local_send side ls s n = judged side ls (is_socket s (length ls) && is_length n) (at_record ls s (send_step (link_at ls s) n))

-- "Close: 11, 4 (free); it frees the record"
abbrev pub close_step : Side → Link → Result Answer Refusal × Link
close_step side l = cond (in_use l.state) (Ok A.Done, blank side) (Err R.NotOpen, l)

unfoldable pub local_close : Side → List Link → Socket → Result Answer Refusal × List Link
local_close side ls s = judged side ls (is_socket s (length ls)) (at_record ls s (close_step side (link_at ls s)))
