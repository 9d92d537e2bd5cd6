-- DEMAND 3, as one claim about a list of receiving calls, over any number of links at the provisioner's end and the one of a device's. The proof is
-- `proofs/Demand3.antt`. The claim is stated of any receiver; document 01's rules, `received`, meet it.
use Rattle.std.specs.Prelude.{ℕ, ◌≤◌, true, cond, ◌≢◌, ◌≡◌, eqb, length, take, Some, None, Result}
use Rattle.links.specs.declared.Answer.{Answer}
use Rattle.links.specs.declared.Refusal.{Refusal}
use mathlib.Core.List.{List, [], ◌∷◌, ◌++◌, map, Memᴰ}
use Rattle.octets.specs.Told.{Told, answered}
use Rattle.transactions.specs.Numbers.{is_socket, socket_place}
use Rattle.transactions.specs.declared.TransactionNumber.{TransactionNumber}
use Rattle.transactions.specs.declared.Socket.{Socket}
use Rattle.pb_adv.specs.Frame.{kind_of}
use Rattle.pb_adv_writing.specs.Writing.{message_frames}
use Rattle.links.specs.Links.{peer, End, side_of, sends, Awaits, told}
use Rattle.links.specs.Good.{good}
use Rattle.links.specs.Bad.{InHalf}
use Rattle.links.specs.Station.{Station, of_socket, is_right, link_at}
use Rattle.links.specs.Interleaving.{with_key, in_turn, All, state_after, answers, key_of}
use Rattle.links.specs.Operations.{ReceivingStep, Receiver}
use Rattle.links.specs.declared.Side.{Side}
use Rattle.links.specs.declared.LinkState.TheVariants as S
use Rattle.links.specs.declared.Link.{Link}

-- a message under its number
pub record Message : Type 0 where
  pub number : TransactionNumber
  pub octets : List ℕ

-- a receiving call: its frame, and the socket of the link that the frame is for
pub record Call : Type 0 where
  pub socket : Socket
  pub frame : List ℕ

-- the place of its socket, by which calls are put one after the other
abbrev pub call_place : Call → ℕ
call_place c = socket_place c.socket

-- ---- what has come

-- the frames that calls bring to a socket, in their order
abbrev pub frames_for : Socket → List Call → List (List ℕ)
frames_for s cs = map (λ c. c.frame) (with_key call_place (socket_place s) cs)

-- those at or after the first Start segment
abbrev pub since_start : List (List ℕ) → List (List ℕ)
since_start [] = []
since_start (f ∷ fs) = cond (eqb (kind_of f) 0) (f ∷ fs) (since_start fs)

-- each of some frames is among others
abbrev pub AllAmong : List (List ℕ) → List (List ℕ) → Type 0
AllAmong fs gs = (f : List ℕ) → Memᴰ f fs → Memᴰ f gs

-- ---- the start

-- an open link with "no half-received message", and "one message of 1 to 1,469 octets under a device-side number that the link
-- didn't deliver last"; at a device's end the number is the provisioner's
pub record ReadyFor (side : Side) (l : Link) (m : Message) : Type 0 where
  pub is_open : l.state ≡ S.Open
  pub nothing : l.half ≡ None
  pub half : InHalf (peer side) m.number
  pub not_last : l.last ≢ Some m.number
  pub some-octets : 1 ≤ length m.octets
  pub few-octets : length m.octets ≤ 1469

-- the same, as the rules test it
pub record Ready (side : Side) (l : Link) (m : Message) : Type 0 where
  pub is_open : l.state ≡ S.Open
  pub nothing : l.half ≡ None
  pub awaited : Awaits l.last m.number
  pub number : sends (peer side) m.number ≡ true
  pub some-octets : 1 ≤ length m.octets
  pub few-octets : length m.octets ≤ 1469

-- the cut of a message with a link's Link ID: "any frame of the message's cut, with the link's Link ID and the message's number"
abbrev pub cut_at : Link → Message → List (List ℕ)
cut_at l m = message_frames l.id m.number m.octets

-- the station σ, and one message for each socket
module _ (σ : Station) (message : Socket → Message) where
  abbrev pub link_of : Socket → Link
  link_of s = link_at σ.links s

  -- "Eight open links with different Link IDs, in a state that isn't bad, whatever the lent area holds, no half-received message on any"; "with one link"
  -- on a device's end, where `is_right` asks for one record
  pub record Premises (end : End) : Type 0 where
    pub right : is_right end σ ≡ true
    pub not_bad : good (side_of end) σ.links ≡ true
    pub ready : (s : Socket) → is_socket s (length σ.links) ≡ true → Ready (side_of end) (link_of s) (message s)

  -- "one right segment of one of these messages"
  pub record Right (c : Call) : Type 0 where
    pub socket : is_socket c.socket (length σ.links) ≡ true
    pub segment : Memᴰ c.frame (cut_at (link_of c.socket) (message c.socket))

  -- each segment of a socket's message has come at or after the first Start segment of that message
  abbrev pub AllCome : Socket → List Call → Type 0
  AllCome s cs = AllAmong (cut_at (link_of s) (message s)) (since_start (frames_for s cs))

  -- the call c, after the calls cs, is the first by which that is so for its link
  abbrev pub First : List Call → Call → Type 0
  First cs c = AllCome c.socket (cs ++ (c ∷ [])) × (AllCome c.socket cs → ⊥)

  -- "delivered", with the message's length and number
  abbrev pub delivery : Socket → Told
  delivery s = answered "delivered" (length (message s).octets ∷ (message s).number.0 ∷ [])

  module _ (step : ReceivingStep) where
    -- each call takes state and area as the call before left them
    abbrev pub called : Station → Call → Result Answer Refusal × Station
    called τ c = step τ c.frame

    -- the station after calls, and what the next one answers
    abbrev pub after : List Call → Station
    after cs = state_after called σ cs

    abbrev pub answer : List Call → Call → Told
    answer cs c = told (called (after cs) c).0

    -- THE CLAIM about a list of calls
    pub record Claim (cs : List Call) : Type 0 where
      -- a call answers "delivered" exactly when it is the first by which each segment of its link's message has come; it then gives that message's
      -- length and number
      pub due : (pre : List Call) (c : Call) (post : List Call) → cs ≡ pre ++ (c ∷ post) → First pre c → answer pre c ≡ delivery c.socket
      pub only_then : (pre : List Call) (c : Call) (post : List Call) → cs ≡ pre ++ (c ∷ post)
          → (values : List ℕ) → answer pre c ≡ answered "delivered" values → First pre c
      -- the octets stand at the start of the socket's part to the end of the list
      pub stand : (pre : List Call) (c : Call) (more post : List Call) → cs ≡ pre ++ (c ∷ (more ++ post)) → First pre c
          → take (length (message c.socket).octets) (of_socket c.socket (after (pre ++ (c ∷ more)))).part ≡ (message c.socket).octets
      -- a link delivers its message once or never
      pub once : (pre : List Call) (c : Call) (mid : List Call) (d : Call) (post : List Call) → cs ≡ pre ++ (c ∷ (mid ++ (d ∷ post))) → c.socket ≡ d.socket
          → (values : List ℕ) → answer pre c ≡ answered "delivered" values
          → (others : List ℕ) → answer (pre ++ (c ∷ mid)) d ≡ answered "delivered" others → ⊥
      -- the final state and the whole lent area, and every call's answer, are those of serving the links one after the other
      pub same_end : after (in_turn call_place (length σ.links) cs) ≡ after cs
      pub same_answers : answers called σ (in_turn call_place (length σ.links) cs) ≡ in_turn (key_of call_place) (length σ.links) (answers called σ cs)

-- DEMAND 3
abbrev pub Demand3 : Receiver → Type 0
Demand3 receive =
    (end : End) (σ : Station) (message : Socket → Message) → Premises σ message end → (cs : List Call) → All (Right σ message) cs
    → Claim σ message (receive end) cs
