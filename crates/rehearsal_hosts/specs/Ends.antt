-- The ends of a link with their hosts: what a frame does that is heard, and the station's local calls. Quotations are of `docs/REHEARSAL.md`.
use Rattle.std.specs.Prelude.{ℕ, cond, Option, List, leb, get_or, Some, None, Result, Ok, Err}
use Rattle.links.specs.declared.Answer.{Answer}
use Rattle.links.specs.declared.Refusal.{Refusal}
use Rattle.transactions.specs.declared.TransactionNumber.{TransactionNumber}
use Rattle.transactions.specs.Numbers.{socket_place}
use Rattle.transactions.specs.declared.Socket.{Socket}
use Rattle.links.specs.Station.{Station, no_link, local_open, local_send, local_close}
use Rattle.links.specs.Device.{heard}
use Rattle.links.specs.declared.Side.TheVariants.{Provisioner}
use Rattle.links.specs.declared.Link.{Link}
use Rattle.links.specs.declared.Answer.TheVariants as A
use Rattle.link_steps.specs.declared.Stepped.{Stepped}
use Rattle.station.specs.Calls.{receiving}
use Rattle.device.specs.Calls.{handed_back}
use Rattle.rehearsal_hosts.specs.Hosts.{with_closes, station_sending, station_sent, station_notes, device_sending, device_sent, device_notes}
use Rattle.rehearsal_hosts.specs.declared.StationEnd.{StationEnd}
use Rattle.rehearsal_hosts.specs.declared.DeviceHost.{DeviceHost}
use Rattle.rehearsal_hosts.specs.declared.Sending.{Sending}
use Rattle.rehearsal_hosts.specs.declared.Next.{Next}

-- "the station opens the sockets that have a module"
abbrev pub opened_end : StationEnd → Socket → ℕ → StationEnd
opened_end e s id = record { links = (local_open Provisioner e.links s id).1; host = e.host }

-- "on "opened" it begins to send the Invite, `0000` (local Send of 2 octets)"
abbrev pub invited : List Link → Socket → Result Answer Refusal → List Link
invited ls s (Err r) = ls
invited ls s (Ok A.AcknowledgeAgain) = ls
invited ls s (Ok A.Kept) = ls
invited ls s (Ok A.Repeat) = ls
invited ls s (Ok (A.Delivered n t)) = ls
invited ls s (Ok A.Opened) = (local_send Provisioner ls s 2).1
invited ls s (Ok A.Already) = ls
invited ls s (Ok (A.Closed reason)) = ls
invited ls s (Ok A.Acknowledged) = ls
invited ls s (Ok (A.Sending t last)) = ls
invited ls s (Ok A.Done) = ls

-- a frame that the station hears, of the module at a socket
abbrev pub station_heard : StationEnd → Socket → List ℕ → List ℕ → StationEnd
station_heard e s area f =
    let r : Result Answer Refusal × Station = receiving e.links area f in
    record { links = invited r.1.links s r.0; host = station_notes e.host r.0 }

-- a local Close, after which "three Closes are due"; where it is refused nothing changes
abbrev pub closed_by : StationEnd → ℕ → List Link → Result Answer Refusal → StationEnd
closed_by e reason ls (Err r) = e
closed_by e reason ls (Ok A.AcknowledgeAgain) = e
closed_by e reason ls (Ok A.Kept) = e
closed_by e reason ls (Ok A.Repeat) = e
closed_by e reason ls (Ok (A.Delivered n t)) = e
closed_by e reason ls (Ok A.Opened) = e
closed_by e reason ls (Ok A.Already) = e
closed_by e reason ls (Ok (A.Closed other)) = e
closed_by e reason ls (Ok A.Acknowledged) = e
closed_by e reason ls (Ok (A.Sending t last)) = e
closed_by e reason ls (Ok A.Done) = record { links = ls; host = with_closes e.host 3 reason }

abbrev pub closed_end : StationEnd → Socket → ℕ → StationEnd
closed_end e s reason = let r : Result Answer Refusal × List Link = local_close Provisioner e.links s in closed_by e reason r.1 r.0

-- "An open link on which a message was delivered and no acknowledgement is due is closed", "with reason 2 (failed)"
abbrev pub answered_by : StationEnd → Socket → Option TransactionNumber → StationEnd
answered_by e s None = e
answered_by e s (Some t) = cond (leb 1 e.host.acknowledgements) e (closed_end e s 2)

abbrev pub answered_end : StationEnd → Socket → StationEnd
answered_end e s = answered_by e s (get_or e.links (socket_place s) no_link).last

-- what the station sends at a socket next, and the station after it
abbrev pub station_next : StationEnd → Socket → Next StationEnd
station_next e s =
    let x : Option Sending = station_sending e.host (get_or e.links (socket_place s) no_link) in
    record { end = record { links = e.links; host = station_sent e.host x }; sending = x }

-- a frame that a device hears
abbrev pub with_link : DeviceHost → Link → DeviceHost
with_link h link = record {
  link = link;
  length = h.length;
  acks = h.acks;
  acknowledgements = h.acknowledgements;
  last = h.last;
  segment = h.segment;
}

abbrev pub device_heard : DeviceHost → List ℕ → List ℕ → List ℕ → DeviceHost
device_heard h own area f =
    let r : Stepped = handed_back (heard own h.link area f) in
    device_notes (with_link h r.link) r.answer

-- what it sends next, and the device after it
abbrev pub device_next : DeviceHost → Next DeviceHost
device_next h = let x : Option Sending = device_sending h in record { end = device_sent h x; sending = x }
