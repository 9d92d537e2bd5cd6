-- The promises of `specs/Promises.antt`.
use Rattle.std.specs.Prelude.{Some, Option, None, Result, Ok, Err}
use Rattle.links.specs.declared.Answer.{Answer}
use Rattle.links.specs.declared.Refusal.{Refusal}
use Prim.Native.Nat.{ℕ, ◌+◌, ◌≤◌, ◌<◌}
use native.Mathlib.Omega.{arith}
use mathlib.Core.List.{[], ◌∷◌}
use mathlib.Core.Bool.{false}
use mathlib.Core.Logic.{◌⊎◌, inl, inr}
use mathlib.Core.Path.{◌≡◌, refl, ◌∙◌}
use lib.Dec.{leb}
use borrow.Author.Tests.{leb-true, le-leb, lt-leb, lt-ltb, le-ltb}
use Rattle.octets.proofs.Tests.{cases}
use Rattle.transactions.specs.declared.TransactionNumber.{TransactionNumber}
use Rattle.links.specs.declared.LinkState.{LinkState}
use Rattle.links.specs.declared.LinkState.TheVariants as U
use Rattle.links.specs.declared.Link.{Link}
use Rattle.links.specs.declared.Side.TheVariants.{Device}
use Rattle.links.specs.Station.{link_at, local_send}
use Rattle.link_steps.specs.declared.Stepped.{Stepped}
use Rattle.device.specs.Calls.{record_back, only_socket}
use Rattle.links.specs.declared.Answer.TheVariants as A
use Rattle.rehearsal_hosts.specs.Hosts.{one_more, one_fewer, acknowledgement_of, open_sending, station_sending_in, station_notes, with_acknowledgements, device_sending_in, begun, device_notes}
use Rattle.rehearsal_hosts.specs.Promises.{BothAcknowledgeAlone, AckAfterBoth, AcknowledgesLast, StationSends, DeviceSends, SendsWhatIsDue}
use Rattle.rehearsal_hosts.specs.Ends.{answered_by, station_next}
use Rattle.rehearsal_hosts.specs.declared.StationEnd.{StationEnd}
use Rattle.transactions.specs.declared.Socket.{Socket}
use Rattle.rehearsal_hosts.specs.declared.StationHost.{StationHost}
use Rattle.rehearsal_hosts.specs.declared.DeviceHost.{DeviceHost}
use Rattle.rehearsal_hosts.specs.declared.Sending.TheVariants.{Close, Acknowledgement}
use Rattle.rehearsal_hosts.proofs.Laws.{refused-same, begun-same}

-- ---- what is due

counted : (due : ℕ) → due < 4294967295 → one_more due ≡ due + 1
counted due few = rw (lt-ltb due 4294967295 few)

station-same : (h : StationHost) (a : Result Answer Refusal) → ((n : ℕ) (t : TransactionNumber) → a ≡ Ok (A.Delivered n t) → ⊥) → (a ≡ Ok A.AcknowledgeAgain → ⊥)
    → (station_notes h a).acknowledgements ≡ h.acknowledgements
station-same h (Err r) d g = refused-same h r
station-same h (Ok A.AcknowledgeAgain) d g = absurd (g refl)
station-same h (Ok A.Kept) d g = refl
station-same h (Ok A.Repeat) d g = refl
station-same h (Ok (A.Delivered n t)) d g = absurd (d n t refl)
station-same h (Ok A.Opened) d g = refl
station-same h (Ok A.Already) d g = refl
station-same h (Ok (A.Closed reason)) d g = refl
station-same h (Ok A.Acknowledged) d g = refl
station-same h (Ok (A.Sending t last)) d g = refl
station-same h (Ok A.Done) d g = refl

device-same : (h : DeviceHost) (a : Result Answer Refusal) → ((n : ℕ) (t : TransactionNumber) → a ≡ Ok (A.Delivered n t) → ⊥) → (a ≡ Ok A.AcknowledgeAgain → ⊥)
    → (device_notes h a).acknowledgements ≡ h.acknowledgements
device-same h (Err r) d g = refl
device-same h (Ok A.AcknowledgeAgain) d g = absurd (g refl)
device-same h (Ok A.Kept) d g = refl
device-same h (Ok A.Repeat) d g = refl
device-same h (Ok (A.Delivered n t)) d g = absurd (d n t refl)
device-same h (Ok A.Opened) d g = refl
device-same h (Ok A.Already) d g = refl
device-same h (Ok (A.Closed reason)) d g = refl
device-same h (Ok A.Acknowledged) d g = refl
device-same h (Ok (A.Sending t last)) d g = refl
device-same h (Ok A.Done) d g = refl

-- with the acknowledgement that is due on "delivered", by the answer of its local Send
begun-due : (h : DeviceHost) → let b = with_acknowledgements h (one_more h.acknowledgements) in
    ((begun b).acknowledgements ≡ one_more h.acknowledgements) × ((begun b).acks ≡ h.acks)
begun-due h =
    let b = with_acknowledgements h (one_more h.acknowledgements) in
    let r : Stepped = record_back (local_send Device (b.link ∷ []) only_socket b.length) in
    begun-same b r.link r.answer

pub both-acknowledge-alone : BothAcknowledgeAlone
both-acknowledge-alone = (
  λ h. record { delivered = λ few n t. counted h.acknowledgements few; again = counted h.acknowledgements; other = station-same h },
  λ h. record { delivered = λ few n t. (begun-due h).0 ∙ counted h.acknowledgements few; again = counted h.acknowledgements; other = device-same h },
)

acks-same : (h : DeviceHost) (a : Result Answer Refusal) → (a ≡ Ok A.Opened → ⊥) → (a ≡ Ok A.Already → ⊥) → (device_notes h a).acks ≡ h.acks
acks-same h (Err r) o y = refl
acks-same h (Ok A.AcknowledgeAgain) o y = refl
acks-same h (Ok A.Kept) o y = refl
acks-same h (Ok A.Repeat) o y = refl
acks-same h (Ok (A.Delivered n t)) o y = (begun-due h).1
acks-same h (Ok A.Opened) o y = absurd (o refl)
acks-same h (Ok A.Already) o y = absurd (y refl)
acks-same h (Ok (A.Closed reason)) o y = refl
acks-same h (Ok A.Acknowledged) o y = refl
acks-same h (Ok (A.Sending t last)) o y = refl
acks-same h (Ok A.Done) o y = refl

pub ack-after-both : AckAfterBoth
ack-after-both = record { opened = λ h. counted h.acks; already = λ h. counted h.acks; other = acks-same }

-- ---- what is sent

last-number : (last : Option TransactionNumber) (t : TransactionNumber) → acknowledgement_of last ≡ Some (Acknowledgement t) → last ≡ Some t
last-number None t e = let z : ◌≡◌ {A = ℕ} 0 1 = cc in absurd (omega arith)
last-number (Some u) t e = cc

module _ (link : Link) (due segment : ℕ) (t : TransactionNumber) where
  open-acknowledges : open_sending link due segment ≡ Some (Acknowledgement t) → (1 ≤ due) × (link.last ≡ Some t)
  open-acknowledges =
      cases (leb 1 due)
      (λ p. rw p (λ e. (leb-true 1 due p, last-number link.last t e)))
      (λ p. rw p (cases link.outstanding
      (λ q. rw q (λ e. let z : ◌≡◌ {A = ℕ} 0 1 = cc in absurd (omega arith)))
      (λ q. rw q (λ e. let z : ◌≡◌ {A = ℕ} 0 1 = cc in absurd (omega arith)))))

station-last : (u : LinkState) (h : StationHost) (link : Link) (t : TransactionNumber) → station_sending_in u h link ≡ Some (Acknowledgement t)
    → (1 ≤ h.acknowledgements) × (link.last ≡ Some t)
station-last U.Free h link t =
    cases (leb 1 h.closes)
    (λ p. rw p (λ e. let z : ◌≡◌ {A = ℕ} 0 1 = cc in absurd (omega arith)))
    (λ p. rw p (λ e. let z : ◌≡◌ {A = ℕ} 0 1 = cc in absurd (omega arith)))
station-last U.Opening h link t = λ e. let z : ◌≡◌ {A = ℕ} 0 1 = cc in absurd (omega arith)
station-last U.Open h link t = open-acknowledges link h.acknowledgements 0 t

device-last : (u : LinkState) (h : DeviceHost) (t : TransactionNumber) → device_sending_in u h ≡ Some (Acknowledgement t)
    → (1 ≤ h.acknowledgements) × (h.link.last ≡ Some t)
device-last U.Free h t = λ e. let z : ◌≡◌ {A = ℕ} 0 1 = cc in absurd (omega arith)
device-last U.Opening h t = λ e. let z : ◌≡◌ {A = ℕ} 0 1 = cc in absurd (omega arith)
device-last U.Open h t =
    cases (leb 1 h.acks)
    (λ p. rw p (λ e. let z : ◌≡◌ {A = ℕ} 0 1 = cc in absurd (omega arith)))
    (λ p. rw p (open-acknowledges h.link h.acknowledgements h.segment t))

pub acknowledges-last : AcknowledgesLast
acknowledges-last = record {
  station = λ e s t. station-last (link_at e.links s).state e.host (link_at e.links s) t;
  device = λ h t. device-last h.link.state h t;
}

-- ---- what is due is sent

none-due : (due : ℕ) → due ≡ 0 → leb 1 due ≡ false
none-due due none = lt-leb 1 due (omega arith)

one_less : (due : ℕ) → 1 ≤ due → one_fewer due + 1 ≡ due
one_less due some = omega arith

module _ (e : StationEnd) (s : Socket) where
  abbrev here : Link
  here = link_at e.links s

  station-due : here.state ≡ U.Open → 1 ≤ e.host.acknowledgements → (t : TransactionNumber) → here.last ≡ Some t
      → ((station_next e s).sending ≡ Some (Acknowledgement t)) × ((station_next e s).end.host.acknowledgements + 1 ≡ e.host.acknowledgements)
  station-due is_open some t last = rw (is_open, le-leb 1 e.host.acknowledgements some, last) (refl, one_less e.host.acknowledgements some)

  station-closing : here.state ≡ U.Free → 1 ≤ e.host.closes
      → ((station_next e s).sending ≡ Some (Close e.host.reason)) × ((station_next e s).end.host.closes + 1 ≡ e.host.closes)
  station-closing free some = rw (free, le-leb 1 e.host.closes some) (refl, one_less e.host.closes some)

  answered-not : (last : Option TransactionNumber) → (last ≡ None) ⊎ (1 ≤ e.host.acknowledgements) → answered_by e s last ≡ e
  answered-not last (inl none) = rw none
  answered-not None (inr some) = refl
  answered-not (Some t) (inr some) = rw (le-leb 1 e.host.acknowledgements some)

  station-sends : StationSends e s
  station-sends = record {
    opening = λ opening. rw opening;
    due = station-due;
    outstanding = λ is_open none out. rw (is_open, none-due e.host.acknowledgements none, out);
    closing = station-closing;
    answered = λ t last none. rw (last, none-due e.host.acknowledgements none);
    unanswered = answered-not here.last;
    closed = λ reason done. rw done (refl, refl);
  }

module _ (h : DeviceHost) where
  device-sends : DeviceSends h
  device-sends = record {
    ack = λ is_open some. rw (is_open, le-leb 1 h.acks some) (refl, one_less h.acks some);
    due = λ is_open no some t last.
        rw (is_open, none-due h.acks no, le-leb 1 h.acknowledgements some, last) (refl, one_less h.acknowledgements some);
    outstanding = λ is_open no none out.
        rw (is_open, none-due h.acks no, none-due h.acknowledgements none, out)
        (refl, (λ more. rw (lt-ltb h.segment h.last more)), (λ over. rw (le-ltb h.segment h.last over)));
  }

pub sends-what-is-due : SendsWhatIsDue
sends-what-is-due = record {
  station = station-sends;
  device = device-sends;
  unheard = λ h. refl;
  answer = λ h n t u k e. rw e (refl, refl, refl);
  invite = λ ls s. refl;
}
