-- DEMAND 2 over a link: a message cut and received comes back, and a delivery comes only from the exact cut of what is delivered. The proofs
-- are `proofs/Back.antt`, `proofs/Only.antt` and `proofs/Opened.antt`.
use Rattle.std.specs.Prelude.{ℕ, Bool, true, false, ◌≢◌, ◌⊎◌, ◌≡◌, length, take, Some, None, Result, Ok, Err}
use Rattle.pb_adv.specs.declared.Frame.{Frame}
use Rattle.pb_adv.specs.declared.FrameRefusal.{FrameRefusal}
use Prim.Native.String.{String}
use mathlib.Core.List.{List, [], ◌∷◌, ◌++◌, Memᴰ}
use Rattle.octets.specs.Numbers.{Octets}
use Rattle.octets.specs.Parts.{part}
use Rattle.octets.specs.Told.{answered}
use Rattle.pb_adv.specs.Frame.{link_id, parsed}
use Rattle.pb_adv.specs.Tables.{malformed, is_control}
use Rattle.transactions.specs.Numbers.{is_socket, socket_place}
use Rattle.transactions.specs.declared.TransactionNumber.{TransactionNumber}
use Rattle.transactions.specs.declared.Socket.{Socket}
use Rattle.pb_adv.specs.declared.Frame.TheVariants as P
use Rattle.pb_adv_writing.specs.Writing.{segment_frame, message_frames}
use Rattle.links.specs.Links.{End, provisioner, device, side_of, in_use, told}
use Rattle.links.specs.Good.{good}
use Rattle.links.specs.Segments.{OneLink}
use Rattle.links.specs.Station.{Station, of_socket, is_right, received}
use Rattle.links.specs.Interleaving.{All, state_after, BeforeEach}
use Rattle.links.specs.Operations.{Operation, receiving, opening, sending, closing, ReceivingStep, Receiver, operate_by, operate, after_all, Offered}
use Rattle.links.specs.Promises.{addressed}
use Rattle.links.specs.Demand3.{Message, Ready, cut_at}
use Rattle.links.specs.declared.Side.TheVariants.{Provisioner}
use Rattle.links.specs.declared.LinkState.TheVariants as S
use Rattle.links.specs.declared.HalfMessage.{HalfMessage}
use Rattle.links.specs.declared.Link.{Link}

-- ---- back: "A message cut and received gives that message back, on a link under 3's premises [..] in a state that isn't bad"

-- octets that are neither a segment nor a Close
abbrev pub is_other : Result Frame FrameRefusal → Bool
is_other (Ok (P.Segment s)) = false
is_other (Ok (P.Acknowledgement id t)) = true
is_other (Ok (P.Open id uuid)) = true
is_other (Ok (P.Ack id)) = true
is_other (Ok (P.Close id reason)) = false
is_other (Err r) = true

module _ (end : End) (σ : Station) (s : Socket) (m : Message) where
  abbrev pub its_link : Link
  its_link = (of_socket s σ).link

  -- 3's premises for the link of socket s; the other links are in any state that isn't bad
  pub record Prepared : Type 0 where
    pub right : is_right end σ ≡ true
    pub not_bad : good (side_of end) σ.links ≡ true
    pub socket : is_socket s (length σ.links) ≡ true
    pub ready : Ready (side_of end) its_link m

  -- what may come: frames of the cut, and in between any octets with another Link ID, any octets but segments and Closes with the link's own, any
  -- local Open (of the provisioner's end, the other has none), any local Send, and the local Closes of other sockets
  abbrev pub MayCome : Operation → Type 0
  MayCome (receiving f) = Memᴰ f (cut_at its_link m) ⊎ (((link_id f ≢ its_link.id) ⊎ (is_other (parsed f) ≡ true)) × Octets f)
  MayCome (opening socket id) = side_of end ≡ Provisioner
  MayCome (sending socket n) = Unit {0}
  MayCome (closing socket) = s ≢ socket

  -- every frame of the cut comes at or after a Start
  pub record CutComes (operations : List Operation) : Type 0 where
    pub before : List Operation
    pub since : List Operation
    pub split : operations ≡ before ++ (receiving (segment_frame its_link.id m.number m.octets 0) ∷ since)
    pub cut : (f : List ℕ) → Memᴰ f (cut_at its_link m) → Memᴰ (receiving f) (receiving (segment_frame its_link.id m.number m.octets 0) ∷ since)

  -- the message is given back: a frame of its cut is answered "delivered" with its length and number, and its octets stand at the start of the
  -- socket's part at the end
  pub record GivenBack (step : ReceivingStep) (operations : List Operation) : Type 0 where
    pub before : List Operation
    pub frame : List ℕ
    pub rest : List Operation
    pub split : operations ≡ before ++ (receiving frame ∷ rest)
    pub of_cut : Memᴰ frame (cut_at its_link m)
    pub delivered : told (step (state_after (operate_by step (side_of end)) σ before) frame).0 ≡ answered "delivered" (length m.octets ∷ m.number.0 ∷ [])
    pub stands : take (length m.octets) (of_socket s (state_after (operate_by step (side_of end)) σ operations)).part ≡ m.octets

-- in any order, with any repeats; stated of any receiver, and document 01's rules, `received`, meet it
abbrev pub Back : Receiver → Type 0
Back receive =
    (end : End) (σ : Station) (s : Socket) (m : Message) → Prepared end σ s m
    → (operations : List Operation) → All (MayCome end σ s m) operations → CutComes end σ s m operations → GivenBack end σ s m (receive end) operations

-- ---- only: "where nothing was half-received at the start, a link's delivery comes only from the exact cut of what is delivered"

-- a link that is open under a Link ID
pub record OpenUnder (id : ℕ) (x : OneLink) : Type 0 where
  pub is_open : x.link.state ≡ S.Open
  pub has_id : x.link.id ≡ id

-- and has a message of n octets under number t half-received
pub record Receiving (id : ℕ) (t : TransactionNumber) (n : ℕ) (x : OneLink) : Type 0 where
  pub under : OpenUnder id x
  pub half : HalfMessage
  pub is_half : x.link.half ≡ Some half
  pub number : half.number ≡ t
  pub long : half.length ≡ n

module _ (end : End) (σ : Station) where
  -- The message m came to socket s by its cut, with a Link ID and under its number: a Start began it, while the link was open under the Link ID with
  -- no message of that number half-received; before each operation since, the link was open under it with the message half-received, so nothing closed
  -- it and no other message took its place; and every frame of the cut is among the operations from that Start on.
  pub record CameByCut (s : Socket) (id : ℕ) (m : Message) (operations : List Operation) : Type 0 where
    pub before : List Operation
    pub start : Operation
    pub since : List Operation
    pub split : operations ≡ before ++ (start ∷ since)
    pub is_start : start ≡ receiving (segment_frame id m.number m.octets 0)
    pub opened : OpenUnder id (of_socket s (after_all end σ before))
    pub began : (h : HalfMessage) → (of_socket s (after_all end σ before)).link.half ≡ Some h → h.number ≢ m.number
    pub held : BeforeEach (operate end) (λ τ. Receiving id m.number (length m.octets) (of_socket s τ)) (after_all end σ (before ++ (start ∷ []))) since
    pub cut : (f : List ℕ) → Memᴰ f (message_frames id m.number m.octets) → Memᴰ (receiving f) (start ∷ since)

  -- the frame f, received after those operations, delivers at socket s, with such values, a message of that length and number: its octets stand at
  -- the start of the socket's part and came by their cut, with the link's Link ID
  pub record FromCut (s : Socket) (operations : List Operation) (f values : List ℕ) : Type 0 where
    pub message : Message
    pub valued : values ≡ length message.octets ∷ message.number.0 ∷ []
    pub stands : take (length message.octets) (of_socket s (after_all end σ (operations ++ (receiving f ∷ [])))).part ≡ message.octets
    pub came : CameByCut s (of_socket s (after_all end σ operations)).link.id message (operations ++ (receiving f ∷ []))

  -- a delivery is that of the socket that the frame is for, and comes from the cut where nothing was half-received on that socket's link at the start
  pub record Delivery (operations : List Operation) (f values : List ℕ) : Type 0 where
    pub socket : Socket
    pub numbered : is_socket socket (length σ.links) ≡ true
    pub is_for : addressed end (after_all end σ operations).links (parsed f) ≡ Some (socket_place socket)
    pub only : (of_socket socket σ).link.half ≡ None → FromCut socket operations f values

-- any operations, refused ones too, and any octets
abbrev pub Only : Type 0
Only =
    (end : End) (σ : Station) (operations : List Operation) → All (Offered end) operations → (f : List ℕ) → Octets f
    → (values : List ℕ) → told (received end (after_all end σ operations) f).0 ≡ answered "delivered" values → Delivery end σ operations f values

-- ---- and a link in use that wasn't at the start was opened since

-- a link in use under a Link ID
pub record UsedUnder (id : ℕ) (x : OneLink) : Type 0 where
  pub is_used : in_use x.link.state ≡ true
  pub has_id : x.link.id ≡ id

-- the word of the answer by which an end's link comes into use: a local Open at the provisioner's, an Open frame at a device's
abbrev pub open_word : End → String
open_word provisioner = "done"
open_word (device own) = "opened"

-- the operation c, so answered, gave socket s the Link ID under which it has been in use since
pub record OpenedBy (end : End) (σ : Station) (s : Socket) (id : ℕ) (c : Operation) (operations : List Operation) : Type 0 where
  pub before : List Operation
  pub since : List Operation
  pub split : operations ≡ before ++ (c ∷ since)
  pub done : told (operate end (after_all end σ before) c).0 ≡ answered (open_word end) []
  pub held : BeforeEach (operate end) (λ τ. UsedUnder id (of_socket s τ)) (after_all end σ (before ++ (c ∷ []))) since

-- octets that are an Open with a Link ID and a UUID
pub record IsOpen (id : ℕ) (uuid f : List ℕ) : Type 0 where
  pub fits : malformed f ≡ false
  pub opcode : is_control 0 f ≡ true
  pub has_id : link_id f ≡ id
  pub has_uuid : part f 6 16 ≡ uuid

-- a local Open of the socket, or an Open with the device's own UUID
abbrev pub Opened : End → Station → Socket → ℕ → List Operation → Type 0
Opened provisioner σ s id operations = OpenedBy provisioner σ s id (opening s id) operations
Opened (device own) σ s id operations = (f : List ℕ) × IsOpen id own f × OpenedBy (device own) σ s id (receiving f) operations

abbrev pub OpenedSince : Type 0
OpenedSince =
    (end : End) (σ : Station) (s : Socket) → is_socket s (length σ.links) ≡ true → in_use (of_socket s σ).link.state ≡ false
    → (operations : List Operation) → All (Offered end) operations
    → in_use (of_socket s (after_all end σ operations)).link.state ≡ true → Opened end σ s (of_socket s (after_all end σ operations)).link.id operations
