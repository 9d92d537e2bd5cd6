-- The two hosts of a link in a rehearsal. Quotations are of `docs/REHEARSAL.md`, "What happens".
use Rattle.std.specs.Prelude.{ℕ, ◌+◌, ◌-◌, cond, Option, Some, None, [], ◌∷◌, leb, ltb, Result, Ok, Err}
use Rattle.links.specs.declared.Answer.{Answer}
use Rattle.transactions.specs.declared.TransactionNumber.{TransactionNumber}
use Rattle.links.specs.Links.{blank}
use Rattle.links.specs.Station.{local_send}
use Rattle.links.specs.declared.Side.TheVariants.{Device}
use Rattle.links.specs.declared.LinkState.{LinkState}
use Rattle.links.specs.declared.LinkState.TheVariants as U
use Rattle.links.specs.declared.Link.{Link}
use Rattle.links.specs.declared.Refusal.{Refusal}
use Rattle.links.specs.declared.Refusal.TheVariants as R
use Rattle.links.specs.declared.Answer.TheVariants as A
use Rattle.link_steps.specs.declared.Stepped.{Stepped}
use Rattle.device.specs.Calls.{record_back, only_socket}
use Rattle.rehearsal_hosts.specs.declared.StationHost.{StationHost}
use Rattle.rehearsal_hosts.specs.declared.DeviceHost.{DeviceHost}
use Rattle.rehearsal_hosts.specs.declared.Sending.{Sending}
use Rattle.rehearsal_hosts.specs.declared.Sending.TheVariants.{Open, Ack, Close, Acknowledgement, Segment}

-- ---- what is due

-- one more, as far as it can be counted; "What is due is one less when it was sent."
abbrev pub one_more : ℕ → ℕ
one_more due = cond (ltb due 4294967295) (due + 1) due

abbrev pub one_fewer : ℕ → ℕ
one_fewer due = due - 1

-- ---- either end, on an open link

-- "the acknowledgement of the message delivered last"
abbrev pub acknowledgement_of : Option TransactionNumber → Option Sending
acknowledgement_of None = None
acknowledgement_of (Some t) = Some (Acknowledgement t)

-- an acknowledgement that is due, or else a segment of the message that is outstanding
abbrev pub open_sending : Link → ℕ → ℕ → Option Sending
open_sending link due segment =
    cond (leb 1 due) (acknowledgement_of link.last) (cond link.outstanding (Some (Segment link.next segment)) None)

-- ---- the station

abbrev pub new_station : StationHost
new_station = record { acknowledgements = 0; closes = 0; reason = 0 }

abbrev pub with_due : StationHost → ℕ → StationHost
with_due h n = record { acknowledgements = n; closes = h.closes; reason = h.reason }

abbrev pub with_closes : StationHost → ℕ → ℕ → StationHost
with_closes h n reason = record { acknowledgements = h.acknowledgements; closes = n; reason = reason }

abbrev pub close_sending : StationHost → Option Sending
close_sending h = cond (leb 1 h.closes) (Some (Close h.reason)) None

-- "It sends, on a link that is opening, the Open; on an open link [..]; at a socket without a link, if a Close is due, the Close; else nothing."
abbrev pub station_sending_in : LinkState → StationHost → Link → Option Sending
station_sending_in U.Free h link = close_sending h
station_sending_in U.Opening h link = Some Open
station_sending_in U.Open h link = open_sending link h.acknowledgements 0

abbrev pub station_sending : StationHost → Link → Option Sending
station_sending h link = station_sending_in link.state h link

abbrev pub station_sent : StationHost → Option Sending → StationHost
station_sent h None = h
station_sent h (Some Open) = h
station_sent h (Some Ack) = h
station_sent h (Some (Close reason)) = with_closes h (one_fewer h.closes) h.reason
station_sent h (Some (Acknowledgement t)) = with_due h (one_fewer h.acknowledgements)
station_sent h (Some (Segment t k)) = h

-- "on refusal 3, which is of a module that did not hear the Close, three Closes are due again"
abbrev pub station_refused : StationHost → Refusal → StationHost
station_refused h R.UnknownLink = with_closes h 3 h.reason
station_refused h R.Malformed = h
station_refused h R.UnknownOpcode = h
station_refused h R.NotOpen = h
station_refused h R.WrongDirection = h
station_refused h R.NotBegun = h
station_refused h R.Mismatch = h
station_refused h R.WrongCheck = h
station_refused h R.SocketInUse = h
station_refused h R.LinkIdInUse = h
station_refused h R.WrongArgument = h
station_refused h R.NotOutstanding = h
station_refused h R.Outstanding = h
station_refused h R.BadState = h
station_refused h R.OtherUuid = h
station_refused h R.Busy = h

-- "on "delivered" and "acknowledge again" one acknowledgement more is due, and on nothing else"
abbrev pub station_notes : StationHost → Result Answer Refusal → StationHost
station_notes h (Err r) = station_refused h r
station_notes h (Ok A.AcknowledgeAgain) = with_due h (one_more h.acknowledgements)
station_notes h (Ok A.Kept) = h
station_notes h (Ok A.Repeat) = h
station_notes h (Ok (A.Delivered n t)) = with_due h (one_more h.acknowledgements)
station_notes h (Ok A.Opened) = h
station_notes h (Ok A.Already) = h
station_notes h (Ok (A.Closed reason)) = h
station_notes h (Ok A.Acknowledged) = h
station_notes h (Ok (A.Sending t last)) = h
station_notes h (Ok A.Done) = h

-- ---- a device

abbrev pub new_device : ℕ → DeviceHost
new_device length = record { link = blank Device; length = length; acks = 0; acknowledgements = 0; last = 0; segment = 0 }

abbrev pub with_acks : DeviceHost → ℕ → DeviceHost
with_acks h n = record {
  link = h.link;
  length = h.length;
  acks = n;
  acknowledgements = h.acknowledgements;
  last = h.last;
  segment = h.segment;
}

abbrev pub with_acknowledgements : DeviceHost → ℕ → DeviceHost
with_acknowledgements h n = record {
  link = h.link;
  length = h.length;
  acks = h.acks;
  acknowledgements = n;
  last = h.last;
  segment = h.segment;
}

abbrev pub with_segment : DeviceHost → ℕ → DeviceHost
with_segment h k = record {
  link = h.link;
  length = h.length;
  acks = h.acks;
  acknowledgements = h.acknowledgements;
  last = h.last;
  segment = k;
}

abbrev pub with_message : DeviceHost → Link → ℕ → DeviceHost
with_message h link last = record {
  link = link;
  length = h.length;
  acks = h.acks;
  acknowledgements = h.acknowledgements;
  last = last;
  segment = 0;
}

-- "It sends an Ack, if one is due; or else an acknowledgement [..]; or else, if its message is outstanding, the next of the segments"
abbrev pub device_sending_in : LinkState → DeviceHost → Option Sending
device_sending_in U.Free h = None
device_sending_in U.Opening h = None
device_sending_in U.Open h = cond (leb 1 h.acks) (Some Ack) (open_sending h.link h.acknowledgements h.segment)

abbrev pub device_sending : DeviceHost → Option Sending
device_sending h = device_sending_in h.link.state h

-- "and the first after the last"
abbrev pub segment_after : ℕ → ℕ → ℕ
segment_after k last = cond (ltb k last) (k + 1) 0

abbrev pub device_sent : DeviceHost → Option Sending → DeviceHost
device_sent h None = h
device_sent h (Some Open) = h
device_sent h (Some Ack) = with_acks h (one_fewer h.acks)
device_sent h (Some (Close reason)) = h
device_sent h (Some (Acknowledgement t)) = with_acknowledgements h (one_fewer h.acknowledgements)
device_sent h (Some (Segment t k)) = with_segment h (segment_after k h.last)

-- "it begins to send its message (local Send)"
abbrev pub begun_by : DeviceHost → Link → Result Answer Refusal → DeviceHost
begun_by h link (Err r) = h
begun_by h link (Ok A.AcknowledgeAgain) = h
begun_by h link (Ok A.Kept) = h
begun_by h link (Ok A.Repeat) = h
begun_by h link (Ok (A.Delivered n t)) = h
begun_by h link (Ok A.Opened) = h
begun_by h link (Ok A.Already) = h
begun_by h link (Ok (A.Closed reason)) = h
begun_by h link (Ok A.Acknowledged) = h
begun_by h link (Ok (A.Sending t last)) = with_message h link last
begun_by h link (Ok A.Done) = h

abbrev pub begun : DeviceHost → DeviceHost
begun h = let r : Stepped = record_back (local_send Device (h.link ∷ []) only_socket h.length) in begun_by h r.link r.answer

-- "on "opened" and "already" one Ack more is due; on "delivered" and "acknowledge again" one acknowledgement more; on "delivered" [..] its message"
abbrev pub device_notes : DeviceHost → Result Answer Refusal → DeviceHost
device_notes h (Err r) = h
device_notes h (Ok A.AcknowledgeAgain) = with_acknowledgements h (one_more h.acknowledgements)
device_notes h (Ok A.Kept) = h
device_notes h (Ok A.Repeat) = h
device_notes h (Ok (A.Delivered n t)) = begun (with_acknowledgements h (one_more h.acknowledgements))
device_notes h (Ok A.Opened) = with_acks h (one_more h.acks)
device_notes h (Ok A.Already) = with_acks h (one_more h.acks)
device_notes h (Ok (A.Closed reason)) = h
device_notes h (Ok A.Acknowledged) = h
device_notes h (Ok (A.Sending t last)) = h
device_notes h (Ok A.Done) = h
