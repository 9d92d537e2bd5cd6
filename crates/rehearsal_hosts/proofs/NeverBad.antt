-- Both ends' states are never bad on the way: `NeverBad` of `specs/Promises.antt`, by what `links` promises of each call.
use Rattle.std.specs.Prelude.{Option, Some, None, Result, Ok, Err}
use Rattle.links.specs.declared.Answer.{Answer}
use Rattle.links.specs.declared.Refusal.{Refusal}
use Rattle.transactions.specs.declared.TransactionNumber.{TransactionNumber}
use Prim.Native.Nat.{ℕ}
use native.Mathlib.Omega.{arith}
use mathlib.Core.Bool.{true}
use mathlib.Core.List.{List, [], ◌∷◌}
use mathlib.Core.Path.{◌≡◌, refl}
use lib.Dec.{leb}
use lib.ListN.{length, get_or}
use Rattle.octets.specs.Numbers.{Octets}
use Rattle.octets.proofs.Tests.{cases}
use Rattle.transactions.specs.Numbers.{socket_place}
use Rattle.transactions.specs.declared.Socket.{Socket}
use Rattle.links.specs.Links.{provisioner, device}
use Rattle.links.specs.Good.{good}
use Rattle.links.specs.Station.{Station, no_link, local_send, local_close}
use Rattle.links.specs.Device.{device_of, heard}
use Rattle.links.specs.declared.Side.TheVariants.{Provisioner, Device}
use Rattle.links.specs.declared.Link.{Link}
use Rattle.links.specs.declared.Answer.TheVariants as A
use Rattle.links.proofs.Local.{send-count}
use Rattle.links.proofs.Promises.{receiving-keeps-count, receiving-keeps-good, local-calls}
use Rattle.station.specs.Calls.{station_of, receiving}
use Rattle.device.specs.Calls.{only_socket}
use Rattle.rehearsal_hosts.specs.Hosts.{one_more, with_acknowledgements, begun_by, begun, device_sending, device_sent, device_notes}
use Rattle.rehearsal_hosts.specs.Ends.{invited, station_heard, closed_by, closed_end, answered_by, with_link, device_heard}
use Rattle.rehearsal_hosts.specs.Promises.{NeverBad}
use Rattle.rehearsal_hosts.specs.declared.StationEnd.{StationEnd}
use Rattle.rehearsal_hosts.specs.declared.DeviceHost.{DeviceHost}
use Rattle.rehearsal_hosts.specs.declared.Sending.{Sending}
use Rattle.rehearsal_hosts.specs.declared.Sending.TheVariants.{Open, Ack, Close, Acknowledgement, Segment}

-- ---- the station

module _ (s : Socket) (ls : List Link) (g : good Provisioner ls ≡ true) where
  invited-good : (a : Result Answer Refusal) → good Provisioner (invited ls s a) ≡ true
  invited-good (Err r) = g
  invited-good (Ok A.AcknowledgeAgain) = g
  invited-good (Ok A.Kept) = g
  invited-good (Ok A.Repeat) = g
  invited-good (Ok (A.Delivered n t)) = g
  invited-good (Ok A.Opened) = (local-calls.sending Provisioner s 2).keeps-good ls g
  invited-good (Ok A.Already) = g
  invited-good (Ok (A.Closed reason)) = g
  invited-good (Ok A.Acknowledged) = g
  invited-good (Ok (A.Sending t last)) = g
  invited-good (Ok A.Done) = g

module _ (e : StationEnd) (s : Socket) (g : good Provisioner e.links ≡ true) where
  hears-good : (area f : List ℕ) → Octets f → good Provisioner (station_heard e s area f).links ≡ true
  hears-good area f o =
      let r : Result Answer Refusal × Station = receiving e.links area f in
      invited-good s r.1.links (receiving-keeps-good provisioner (station_of e.links area) f o g) r.0

  module _ (reason : ℕ) (ls : List Link) (after : good Provisioner ls ≡ true) where
    closed-good : (a : Result Answer Refusal) → good Provisioner (closed_by e reason ls a).links ≡ true
    closed-good (Err r) = g
    closed-good (Ok A.AcknowledgeAgain) = g
    closed-good (Ok A.Kept) = g
    closed-good (Ok A.Repeat) = g
    closed-good (Ok (A.Delivered n t)) = g
    closed-good (Ok A.Opened) = g
    closed-good (Ok A.Already) = g
    closed-good (Ok (A.Closed other)) = g
    closed-good (Ok A.Acknowledged) = g
    closed-good (Ok (A.Sending t last)) = g
    closed-good (Ok A.Done) = after

  closes-good : (reason : ℕ) → good Provisioner (closed_end e s reason).links ≡ true
  closes-good reason =
      let r : Result Answer Refusal × List Link = local_close Provisioner e.links s in
      closed-good reason r.1 ((local-calls.closing Provisioner s).keeps-good e.links g) r.0

  answered-good : (last : Option TransactionNumber) → good Provisioner (answered_by e s last).links ≡ true
  answered-good None = g
  answered-good (Some t) = cases (leb 1 e.host.acknowledgements) (λ p. rw p g) (λ p. rw p (closes-good 2))

-- ---- a device, whose records are one

one-good : (ls : List Link) → length ls ≡ 1 → good Device ls ≡ true → good Device (get_or ls 0 no_link ∷ []) ≡ true
one-good [] n g = absurd (omega arith)
one-good (l ∷ []) n g = g
one-good (l ∷ k ∷ ls) n g = absurd (omega arith)

module _ (h : DeviceHost) (g : good Device (h.link ∷ []) ≡ true) where
  module _ (link : Link) (after : good Device (link ∷ []) ≡ true) where
    begun-good : (a : Result Answer Refusal) → good Device ((begun_by h link a).link ∷ []) ≡ true
    begun-good (Err r) = g
    begun-good (Ok A.AcknowledgeAgain) = g
    begun-good (Ok A.Kept) = g
    begun-good (Ok A.Repeat) = g
    begun-good (Ok (A.Delivered n t)) = g
    begun-good (Ok A.Opened) = g
    begun-good (Ok A.Already) = g
    begun-good (Ok (A.Closed reason)) = g
    begun-good (Ok A.Acknowledged) = g
    begun-good (Ok (A.Sending t last)) = after
    begun-good (Ok A.Done) = g

  begins-good : good Device ((begun h).link ∷ []) ≡ true
  begins-good =
      let r : Result Answer Refusal × List Link = local_send Device (h.link ∷ []) only_socket h.length in
      begun-good (get_or r.1 0 no_link)
      (one-good r.1 (send-count Device (h.link ∷ []) only_socket h.length)
      ((local-calls.sending Device only_socket h.length).keeps-good (h.link ∷ []) g))
      r.0

notes-good : (h : DeviceHost) → good Device (h.link ∷ []) ≡ true → (a : Result Answer Refusal) → good Device ((device_notes h a).link ∷ []) ≡ true
notes-good h g (Err r) = g
notes-good h g (Ok A.AcknowledgeAgain) = g
notes-good h g (Ok A.Kept) = g
notes-good h g (Ok A.Repeat) = g
notes-good h g (Ok (A.Delivered n t)) = begins-good (with_acknowledgements h (one_more h.acknowledgements)) g
notes-good h g (Ok A.Opened) = g
notes-good h g (Ok A.Already) = g
notes-good h g (Ok (A.Closed reason)) = g
notes-good h g (Ok A.Acknowledged) = g
notes-good h g (Ok (A.Sending t last)) = g
notes-good h g (Ok A.Done) = g

device-good : (h : DeviceHost) (own area f : List ℕ) → Octets f → good Device (h.link ∷ []) ≡ true → good Device ((device_heard h own area f).link ∷ []) ≡ true
device-good h own area f o g =
    let σ = device_of h.link area in
    let ls = (heard own h.link area f).1.links in
    notes-good (with_link h (get_or ls 0 no_link)) (one-good ls (receiving-keeps-count (device own) σ f) (receiving-keeps-good (device own) σ f o g))
    (heard own h.link area f).0

sent-same : (h : DeviceHost) (s : Option Sending) → (device_sent h s).link ≡ h.link
sent-same h None = refl
sent-same h (Some Open) = refl
sent-same h (Some Ack) = refl
sent-same h (Some (Close reason)) = refl
sent-same h (Some (Acknowledgement t)) = refl
sent-same h (Some (Segment t k)) = refl

pub never-bad : NeverBad
unfolding good
never-bad = record {
  new_station = refl;
  opens = λ e s id g. (local-calls.opening s id).keeps-good e.links g;
  hears = λ e s area f o g. hears-good e s g area f o;
  closes = λ e s reason g. closes-good e s g reason;
  closes_answered = λ e s g. answered-good e s g (get_or e.links (socket_place s) no_link).last;
  new_devices = λ n. refl;
  device_hears = device-good;
  sends = λ e s. refl;
  device_sends = λ h. sent-same h (device_sending h);
}
