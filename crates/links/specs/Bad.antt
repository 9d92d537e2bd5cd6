-- A STATE THAT ISN'T BAD, in document 01's words and by none of the tests of `Good.antt`: refusal 14 is given where one of these sentences fails. The
-- proof is `proofs/Bad.antt`.
use Rattle.std.specs.Prelude.{ℕ, ◌≤◌, ◌<◌, true, false, List, ◌≢◌, ◌↔◌, ◌≡◌, length, Option, Some, None}
use Rattle.transactions.specs.Numbers.{is_socket}
use Rattle.transactions.specs.Segments.{seg_n}
use Rattle.transactions.specs.declared.TransactionNumber.{TransactionNumber}
use Rattle.transactions.specs.declared.Socket.{Socket}
use Rattle.links.specs.Marks.{is_marked}
use Rattle.links.specs.Links.{peer}
use Rattle.links.specs.Good.{good}
use Rattle.links.specs.Station.{link_at}
use Rattle.links.specs.declared.Side.{Side}
use Rattle.links.specs.declared.Side.TheVariants.{Provisioner, Device}
use Rattle.links.specs.declared.LinkState.{LinkState}
use Rattle.links.specs.declared.LinkState.TheVariants as S
use Rattle.links.specs.declared.HalfMessage.{HalfMessage}
use Rattle.links.specs.declared.Link.{Link}

-- the numbers of an end: 0x00 to 0x7F, or 0x80 to 0xFF
abbrev pub InHalf : Side → TransactionNumber → Type 0
InHalf Provisioner t = t.0 ≤ 0x7F
InHalf Device t = (0x80 ≤ t.0) × (t.0 ≤ 0xFF)

-- the first of them
abbrev pub sends_from : Side → ℕ
sends_from Provisioner = 0x00
sends_from Device = 0x80

-- "Blank is: [..] sending from 0x00, nothing outstanding, last delivered or half-received", at a device's end from 0x80; in a state and with a Link ID
abbrev pub blank_record : Side → LinkState → ℕ → Link
blank_record side state id = record { state = state; id = id; next = record { 0 = sends_from side }; outstanding = false; last = None; half = None }

-- bad is "a half-received message without segment 0, with none missing, with L or marks out of range, or numbered as the last delivered"
pub record MessageNotBad (side : Side) (last : Option TransactionNumber) (h : HalfMessage) : Type 0 where
  pub number : InHalf (peer side) h.number
  pub first : is_marked h.marks 0 ≡ true
  pub missing : (k : ℕ) × (k ≤ seg_n h.length) × (is_marked h.marks k ≡ false)
  pub long : (1 ≤ h.length) × (h.length ≤ 1469)
  pub above : (k : ℕ) → seg_n h.length < k → is_marked h.marks k ≡ false
  pub new : last ≢ Some h.number

pub record LinkNotBad (side : Side) (l : Link) : Type 0 where
  -- "a free or opening record otherwise not blank", "Link ID 0 if free"; the device's end has none that is opening
  pub free : l.state ≡ S.Free → l ≡ blank_record side S.Free 0
  pub opening : l.state ≡ S.Opening → (side ≡ Provisioner) × (l ≡ blank_record side S.Opening l.id)
  -- "a number outside its half"
  pub next : InHalf side l.next
  pub last : (t : TransactionNumber) → l.last ≡ Some t → InHalf (peer side) t
  pub half : (h : HalfMessage) → l.half ≡ Some h → MessageNotBad side l.last h

pub record NotBad (side : Side) (ls : List Link) : Type 0 where
  pub records : (s : Socket) → is_socket s (length ls) ≡ true → LinkNotBad side (link_at ls s)
  -- "two records in use with one Link ID"
  pub different : (s t : Socket) → is_socket s (length ls) ≡ true → is_socket t (length ls) ≡ true
      → (link_at ls s).state ≢ S.Free → (link_at ls t).state ≢ S.Free → (link_at ls s).id ≡ (link_at ls t).id → s ≡ t

abbrev pub BadStates : Type 0
BadStates = (side : Side) (ls : List Link) → (good side ls ≡ true) ↔ NotBad side ls
