-- The link record: its two ends, its numbers, blank, and the few ways in which it is written anew.
use Rattle.std.specs.Prelude.{ℕ, suc, ◌*◌, ◌/◌, Bool, true, false, ◌&&◌, cond, List, [], ◌∷◌, ◌≡◌, eqb, Option, Some, None, Result, Ok, Err}
use Rattle.links.specs.declared.Answer.{Answer}
use Rattle.links.specs.declared.HalfMessage.{HalfMessage}
use Rattle.octets.specs.Told.{Told, refused, answered}
use Rattle.transactions.specs.declared.TransactionNumber.{TransactionNumber}
use Rattle.links.specs.declared.Side.{Side}
use Rattle.links.specs.declared.Side.TheVariants.{Provisioner, Device}
use Rattle.links.specs.declared.LinkState.{LinkState}
use Rattle.links.specs.declared.LinkState.TheVariants as S
use Rattle.links.specs.declared.Link.{Link}
use Rattle.links.specs.declared.Refusal.{Refusal}
use Rattle.links.specs.declared.Refusal.TheVariants as R
use Rattle.links.specs.declared.Answer.TheVariants as A

-- ---- the two ends and their numbers

-- the other end of a link
abbrev pub peer : Side → Side
peer Provisioner = Device
peer Device = Provisioner

-- an end that receives: the provisioner's, or that of a device with its own UUID
pub data End : Type 0 where
  provisioner : End
  device : List ℕ → End

abbrev pub side_of : End → Side
side_of provisioner = Provisioner
side_of (device own) = Device

-- the half of the numbers that an end sends: 0 for 0x00 to 0x7F, 1 for 0x80 to 0xFF
abbrev pub half_sent : Side → ℕ
half_sent Provisioner = 0
half_sent Device = 1

-- whether an end sends a number
abbrev pub sends : Side → TransactionNumber → Bool
sends side t = eqb (t.0 / 128) (half_sent side)

-- the number that an end sends first
abbrev pub first_number : Side → TransactionNumber
first_number side = record { 0 = 128 * half_sent side }

-- whether a number is the last delivered
abbrev pub is_last : Option TransactionNumber → TransactionNumber → Bool
is_last None t = false
is_last (Some u) t = eqb u.0 t.0

-- what a link awaits of the number of a new message: not the last delivered
pub record Awaits (last : Option TransactionNumber) (t : TransactionNumber) : Type 0 where
  pub not_last : is_last last t ≡ false

-- ---- records

-- a record in a state and with a Link ID, and else blank: "sending from 0x00, nothing outstanding, last delivered or half-received"; from 0x80 at a
-- device's end
abbrev pub blank_with : Side → LinkState → ℕ → Link
blank_with side state id = record { state = state; id = id; next = first_number side; outstanding = false; last = None; half = None }

-- blank: "Link ID 0 if free"
abbrev pub blank : Side → Link
blank side = blank_with side S.Free 0

-- a record in another state
abbrev pub with_state : Link → LinkState → Link
with_state l state = record { state = state; id = l.id; next = l.next; outstanding = l.outstanding; last = l.last; half = l.half }

-- a record with another last delivered number and half-received message
abbrev pub with_received : Link → Option TransactionNumber → Option HalfMessage → Link
with_received l last half = record { state = l.state; id = l.id; next = l.next; outstanding = l.outstanding; last = last; half = half }

-- a record with another sending number and outstanding mark
abbrev pub with_sending : Link → TransactionNumber → Bool → Link
with_sending l next outstanding = record { state = l.state; id = l.id; next = next; outstanding = outstanding; last = l.last; half = l.half }

-- a record in use: opening or open
abbrev pub in_use : LinkState → Bool
in_use S.Free = false
in_use S.Opening = true
in_use S.Open = true

-- a record in use that has a Link ID
abbrev pub has_id : Link → ℕ → Bool
has_id l id = in_use l.state && eqb l.id id

-- the place of the record in use that has a Link ID, counted from k
unfoldable pub find_from : ℕ → List Link → ℕ → Option ℕ
find_from k [] id = None
find_from k (l ∷ ls) id = cond (has_id l id) (Some k) (find_from (suc k) ls id)

abbrev pub find : List Link → ℕ → Option ℕ
find ls id = find_from 0 ls id

-- ---- the numbers and words of document 01, and of request [1] for a device's end

abbrev pub refusal_number : Refusal → ℕ
refusal_number R.Malformed = 1
refusal_number R.UnknownOpcode = 2
refusal_number R.UnknownLink = 3
refusal_number R.NotOpen = 4
refusal_number R.WrongDirection = 5
refusal_number R.NotBegun = 6
refusal_number R.Mismatch = 7
refusal_number R.WrongCheck = 8
refusal_number R.SocketInUse = 9
refusal_number R.LinkIdInUse = 10
refusal_number R.WrongArgument = 11
refusal_number R.NotOutstanding = 12
refusal_number R.Outstanding = 13
refusal_number R.BadState = 14
refusal_number R.OtherUuid = 15
refusal_number R.Busy = 16

abbrev pub told : Result Answer Refusal → Told
told (Err r) = refused (refusal_number r)
told (Ok A.AcknowledgeAgain) = answered "acknowledge again" []
told (Ok A.Kept) = answered "kept" []
told (Ok A.Repeat) = answered "repeat" []
told (Ok (A.Delivered n t)) = answered "delivered" (n ∷ t.0 ∷ [])
told (Ok A.Opened) = answered "opened" []
told (Ok A.Already) = answered "already" []
told (Ok (A.Closed reason)) = answered "closed" (reason ∷ [])
told (Ok A.Acknowledged) = answered "acknowledged" []
told (Ok (A.Sending t n)) = answered "sending" (t.0 ∷ n ∷ [])
told (Ok A.Done) = answered "done" []
