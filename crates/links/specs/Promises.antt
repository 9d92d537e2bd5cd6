-- What is promised of each call of a station, one by one. The proofs are `proofs/Promises.antt`. Demands 2 and 3, over lists of calls, are
-- `specs/Demand2.antt` and `specs/Demand3.antt`.
use Rattle.std.specs.Prelude.{ℕ, true, List, [], ◌∷◌, ◌≢◌, ◌≡◌, get_or, Option, Some, None, Result, Ok, Err}
use Rattle.links.specs.declared.Answer.{Answer}
use Rattle.links.specs.declared.Refusal.{Refusal}
use Rattle.pb_adv.specs.declared.Frame.{Frame}
use Rattle.pb_adv.specs.declared.FrameRefusal.{FrameRefusal}
use Rattle.transactions.specs.Numbers.{socket_place}
use Rattle.octets.specs.Numbers.{Octets}
use Rattle.octets.specs.Told.{refused, answered}
use Rattle.pb_adv.specs.Frame.{parsed}
use Rattle.transactions.specs.declared.TransactionNumber.{TransactionNumber}
use Rattle.transactions.specs.declared.Socket.{Socket}
use Rattle.pb_adv.specs.declared.Frame.TheVariants as P
use Rattle.links.specs.Links.{peer, End, provisioner, device, side_of, find, told}
use Rattle.links.specs.Good.{good}
use Rattle.links.specs.Bad.{InHalf}
use Rattle.links.specs.Station.{Station, no_link, get_link, received, local_open, local_send, local_close}
use Rattle.links.specs.declared.Side.{Side}
use Rattle.links.specs.declared.Side.TheVariants.{Provisioner}
use Rattle.links.specs.declared.Link.{Link}

-- ---- "A numbered refusal changes no state and no lent buffer, apart from the few listed ones": 8 is the one listed here

abbrev pub ReceivingRefusalKeeps : Type 0
ReceivingRefusalKeeps =
    (end : End) (σ : Station) (f : List ℕ) (n : ℕ) → told (received end σ f).0 ≡ refused n → n ≢ 8 → (received end σ f).1 ≡ σ

abbrev pub LocalRefusalKeeps : (List Link → Result Answer Refusal × List Link) → Type 0
LocalRefusalKeeps call = (ls : List Link) (n : ℕ) → told (call ls).0 ≡ refused n → (call ls).1 ≡ ls

-- ---- a good state stays good

abbrev pub ReceivingKeepsGood : Type 0
ReceivingKeepsGood =
    (end : End) (σ : Station) (f : List ℕ) → Octets f → good (side_of end) σ.links ≡ true → good (side_of end) (received end σ f).1.links ≡ true

abbrev pub LocalKeepsGood : Side → (List Link → Result Answer Refusal × List Link) → Type 0
LocalKeepsGood side call = (ls : List Link) → good side ls ≡ true → good side (call ls).1 ≡ true

-- ---- a call for one socket leaves every other record and every other part of the area as it was

-- the record that a parsed frame is for; an Open is for the one record of a device
abbrev pub addressed : End → List Link → Result Frame FrameRefusal → Option ℕ
addressed end ls (Ok (P.Segment s)) = find ls s.id
addressed end ls (Ok (P.Acknowledgement id t)) = find ls id
addressed provisioner ls (Ok (P.Open id uuid)) = find ls id
addressed (device own) ls (Ok (P.Open id uuid)) = Some 0
addressed end ls (Ok (P.Ack id)) = find ls id
addressed end ls (Ok (P.Close id reason)) = find ls id
addressed end ls (Err r) = None

abbrev pub ReceivingLeavesOthers : Type 0
ReceivingLeavesOthers =
    (end : End) (σ : Station) (f : List ℕ) (j : ℕ) → Octets f → addressed end σ.links (parsed f) ≢ Some j → get_link j (received end σ f).1 ≡ get_link j σ

abbrev pub LocalLeavesOthers : Socket → (List Link → Result Answer Refusal × List Link) → Type 0
LocalLeavesOthers s call = (ls : List Link) (j : ℕ) → j ≢ socket_place s → get_or (call ls).1 j no_link ≡ get_or ls j no_link

-- ---- "We send 0x00 to 0x7F .. The device sends 0x80 to 0xFF": an end delivers messages under numbers of the other's half, and sends under its own

pub record Halves : Type 0 where
  pub delivered : (end : End) (σ : Station) (f : List ℕ) → Octets f → (n : ℕ) (t : TransactionNumber) → told (received end σ f).0 ≡ answered "delivered" (n ∷ t.0 ∷ [])
      → InHalf (peer (side_of end)) t
  pub sent : (side : Side) (ls : List Link) (s : Socket) (n : ℕ) (t : TransactionNumber) (k : ℕ) → told (local_send side ls s n).0 ≡ answered "sending" (t.0 ∷ k ∷ [])
      → InHalf side t

-- ---- the three local calls; the device's end has no local Open

-- a local call at a socket
pub record LocalCall (side : Side) (s : Socket) (call : List Link → Result Answer Refusal × List Link) : Type 0 where
  pub refusal-keeps : LocalRefusalKeeps call
  pub keeps-good : LocalKeepsGood side call
  pub leaves-others : LocalLeavesOthers s call

pub record LocalCalls : Type 0 where
  pub opening : (s : Socket) (id : ℕ) → LocalCall Provisioner s (λ ls. local_open Provisioner ls s id)
  pub sending : (side : Side) (s : Socket) (n : ℕ) → LocalCall side s (λ ls. local_send side ls s n)
  pub closing : (side : Side) (s : Socket) → LocalCall side s (λ ls. local_close side ls s)
