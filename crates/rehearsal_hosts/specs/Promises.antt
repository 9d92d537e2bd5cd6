-- What is promised of the hosts beyond each call's contract. The proofs are `proofs/Promises.antt`.
use Rattle.std.specs.Prelude.{ℕ, ◌+◌, ◌≤◌, ◌<◌, true, Some, List, [], ◌∷◌, ◌⊎◌, ◌≡◌, replicate, None, Result, Ok, Err}
use Rattle.links.specs.declared.Answer.{Answer}
use Rattle.links.specs.declared.Refusal.{Refusal}
use Rattle.octets.specs.Numbers.{Octets}
use Rattle.transactions.specs.declared.Socket.{Socket}
use Rattle.transactions.specs.declared.TransactionNumber.{TransactionNumber}
use Rattle.links.specs.Links.{blank}
use Rattle.links.specs.Good.{good}
use Rattle.links.specs.Station.{link_at, local_send, local_close}
use Rattle.links.specs.declared.Side.TheVariants.{Provisioner, Device}
use Rattle.links.specs.declared.LinkState.TheVariants as U
use Rattle.links.specs.declared.Link.{Link}
use Rattle.links.specs.declared.Refusal.TheVariants as R
use Rattle.links.specs.declared.Answer.TheVariants as A
use Rattle.device.specs.Calls.{only_socket}
use Rattle.rehearsal_hosts.specs.Hosts.{station_notes, new_device, device_notes}
use Rattle.rehearsal_hosts.specs.Ends.{opened_end, invited, station_heard, closed_end, answered_end, station_next, device_heard, device_next}
use Rattle.rehearsal_hosts.specs.declared.StationHost.{StationHost}
use Rattle.rehearsal_hosts.specs.declared.StationEnd.{StationEnd}
use Rattle.rehearsal_hosts.specs.declared.DeviceHost.{DeviceHost}
use Rattle.rehearsal_hosts.specs.declared.Sending.TheVariants.{Open, Ack, Close, Acknowledgement, Segment}

-- an end acknowledges "on "delivered" and "acknowledge again" alone": by how many are due before and after an answer, as far as they can be counted
pub record AcknowledgedAlone (before : ℕ) (after : Result Answer Refusal → ℕ) : Type 0 where
  pub delivered : before < 4294967295 → (n : ℕ) (t : TransactionNumber) → after (Ok (A.Delivered n t)) ≡ before + 1
  pub again : before < 4294967295 → after (Ok A.AcknowledgeAgain) ≡ before + 1
  pub other : (a : Result Answer Refusal) → ((n : ℕ) (t : TransactionNumber) → a ≡ Ok (A.Delivered n t) → ⊥) → (a ≡ Ok A.AcknowledgeAgain → ⊥) → after a ≡ before

abbrev pub BothAcknowledgeAlone : Type 0
BothAcknowledgeAlone =
    ((h : StationHost) → AcknowledgedAlone h.acknowledgements (λ a. (station_notes h a).acknowledgements))
    × ((h : DeviceHost) → AcknowledgedAlone h.acknowledgements (λ a. (device_notes h a).acknowledgements))

-- "The host writes the Ack after both": one more is due on "opened" and on "already", and on nothing else
pub record AckAfterBoth : Type 0 where
  pub opened : (h : DeviceHost) → h.acks < 4294967295 → (device_notes h (Ok A.Opened)).acks ≡ h.acks + 1
  pub already : (h : DeviceHost) → h.acks < 4294967295 → (device_notes h (Ok A.Already)).acks ≡ h.acks + 1
  pub other : (h : DeviceHost) (a : Result Answer Refusal) → (a ≡ Ok A.Opened → ⊥) → (a ≡ Ok A.Already → ⊥) → (device_notes h a).acks ≡ h.acks

-- what is sent as an acknowledgement was due, and is of the number delivered last
pub record AcknowledgesLast : Type 0 where
  pub station : (e : StationEnd) (s : Socket) (t : TransactionNumber) → (station_next e s).sending ≡ Some (Acknowledgement t)
      → (1 ≤ e.host.acknowledgements) × ((link_at e.links s).last ≡ Some t)
  pub device : (h : DeviceHost) (t : TransactionNumber) → (device_next h).sending ≡ Some (Acknowledgement t)
      → (1 ≤ h.acknowledgements) × (h.link.last ≡ Some t)

-- what the station sends at a socket, by its record and by what is due, and what is due after it
module _ (e : StationEnd) (s : Socket) where
  abbrev pub record_of : Link
  record_of = link_at e.links s

  pub record StationSends : Type 0 where
    -- "on a link that is opening, the Open"
    pub opening : record_of.state ≡ U.Opening → (station_next e s).sending ≡ Some Open
    -- "on an open link, if an acknowledgement is due, the acknowledgement of the message delivered last"
    pub due : record_of.state ≡ U.Open → 1 ≤ e.host.acknowledgements → (t : TransactionNumber) → record_of.last ≡ Some t
        → ((station_next e s).sending ≡ Some (Acknowledgement t)) × ((station_next e s).end.host.acknowledgements + 1 ≡ e.host.acknowledgements)
    -- "or else, if the Invite is outstanding, its Start"
    pub outstanding : record_of.state ≡ U.Open → e.host.acknowledgements ≡ 0 → record_of.outstanding ≡ true
        → (station_next e s).sending ≡ Some (Segment record_of.next 0)
    -- "at a socket without a link, if a Close is due, the Close"
    pub closing : record_of.state ≡ U.Free → 1 ≤ e.host.closes
        → ((station_next e s).sending ≡ Some (Close e.host.reason)) × ((station_next e s).end.host.closes + 1 ≡ e.host.closes)
    -- "An open link on which a message was delivered and no acknowledgement is due is closed"; "three Closes are due, with reason 2"
    pub answered : (t : TransactionNumber) → record_of.last ≡ Some t → e.host.acknowledgements ≡ 0 → answered_end e s ≡ closed_end e s 2
    pub unanswered : (record_of.last ≡ None) ⊎ (1 ≤ e.host.acknowledgements) → answered_end e s ≡ e
    pub closed : (reason : ℕ) → (local_close Provisioner e.links s).0 ≡ Ok A.Done
        → ((closed_end e s reason).host.closes ≡ 3) × ((closed_end e s reason).host.reason ≡ reason)

-- what a device sends, by its record and by what is due, and what is due after it
pub record DeviceSends (h : DeviceHost) : Type 0 where
  -- "It sends an Ack, if one is due"
  pub ack : h.link.state ≡ U.Open → 1 ≤ h.acks → ((device_next h).sending ≡ Some Ack) × ((device_next h).end.acks + 1 ≡ h.acks)
  -- "or else an acknowledgement of the message delivered last, if one is due"
  pub due : h.link.state ≡ U.Open → h.acks ≡ 0 → 1 ≤ h.acknowledgements → (t : TransactionNumber) → h.link.last ≡ Some t
      → ((device_next h).sending ≡ Some (Acknowledgement t)) × ((device_next h).end.acknowledgements + 1 ≡ h.acknowledgements)
  -- "or else, if its message is outstanding, the next of the segments, and the first after the last"
  pub outstanding : h.link.state ≡ U.Open → h.acks ≡ 0 → h.acknowledgements ≡ 0 → h.link.outstanding ≡ true
      → ((device_next h).sending ≡ Some (Segment h.link.next h.segment))
      × (h.segment < h.last → (device_next h).end.segment ≡ h.segment + 1)
      × (h.last ≤ h.segment → (device_next h).end.segment ≡ 0)

pub record SendsWhatIsDue : Type 0 where
  pub station : (e : StationEnd) (s : Socket) → StationSends e s
  pub device : (h : DeviceHost) → DeviceSends h
  -- "on refusal 3, which is of a module that did not hear the Close, three Closes are due again"
  pub unheard : (h : StationHost) → (station_notes h (Err R.UnknownLink)).closes ≡ 3
  -- "on "delivered", which is of the Invite, it begins to send its message (local Send)": all of its segments, from the first
  pub answer : (h : DeviceHost) (n : ℕ) (t u : TransactionNumber) (k : ℕ) → (local_send Device (h.link ∷ []) only_socket h.length).0 ≡ Ok (A.Sending u k)
      → ((device_notes h (Ok (A.Delivered n t))).link ≡ link_at (local_send Device (h.link ∷ []) only_socket h.length).1 only_socket)
      × ((device_notes h (Ok (A.Delivered n t))).segment ≡ 0)
      × ((device_notes h (Ok (A.Delivered n t))).last ≡ k)
  -- "on "opened" it begins to send the Invite, `0000` (local Send of 2 octets)"
  pub invite : (ls : List Link) (s : Socket) → invited ls s (Ok A.Opened) ≡ (local_send Provisioner ls s 2).1

-- BOTH ENDS' STATES ARE NEVER BAD ON THE WAY: they are not at the start, and no call of the hosts makes them so
pub record NeverBad : Type 0 where
  pub new_station : good Provisioner (replicate 8 (blank Provisioner)) ≡ true
  pub opens : (e : StationEnd) (s : Socket) (id : ℕ) → good Provisioner e.links ≡ true → good Provisioner (opened_end e s id).links ≡ true
  pub hears : (e : StationEnd) (s : Socket) (area f : List ℕ) → Octets f → good Provisioner e.links ≡ true
      → good Provisioner (station_heard e s area f).links ≡ true
  pub closes : (e : StationEnd) (s : Socket) (reason : ℕ) → good Provisioner e.links ≡ true → good Provisioner (closed_end e s reason).links ≡ true
  pub closes_answered : (e : StationEnd) (s : Socket) → good Provisioner e.links ≡ true → good Provisioner (answered_end e s).links ≡ true
  pub new_devices : (n : ℕ) → good Device ((new_device n).link ∷ []) ≡ true
  pub device_hears : (h : DeviceHost) (own area f : List ℕ) → Octets f → good Device (h.link ∷ []) ≡ true
      → good Device ((device_heard h own area f).link ∷ []) ≡ true
  pub sends : (e : StationEnd) (s : Socket) → (station_next e s).end.links ≡ e.links
  pub device_sends : (h : DeviceHost) → (device_next h).end.link ≡ h.link
