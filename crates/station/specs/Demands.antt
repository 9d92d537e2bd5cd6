-- THE DEMANDS OF THE STATION: demand 2 in both halves and demand 3 for eight sockets, numbered 1 to 8, and one lent area of 11,752 octets, of the
-- receiving call that a host makes; and document 01's receiving table for it. What may come, is given back, came by its cut, is right and is claimed is
-- said in `links`, `specs/Demand2.antt` and `Demand3.antt`. The proofs are `proofs/Demands.antt`.
use Rattle.std.specs.Prelude.{ℕ, true, List, ◌≡◌, length}
use Rattle.octets.specs.Numbers.{Octets}
use Rattle.octets.specs.Told.{answered}
use Rattle.octets.specs.Tables.{ByTable}
use Rattle.transactions.specs.Numbers.{is_socket}
use Rattle.transactions.specs.declared.Socket.{Socket}
use Rattle.links.specs.Links.{provisioner, told}
use Rattle.links.specs.Good.{good}
use Rattle.links.specs.Station.{Station, link_at}
use Rattle.links.specs.Interleaving.{All, state_after}
use Rattle.links.specs.Operations.{Operation, ReceivingStep, operate_by, Offered}
use Rattle.links.specs.Demand2.{MayCome, CutComes, GivenBack, Delivery}
use Rattle.links.specs.Demand3.{Message, Call, ReadyFor, Right, Claim}
use Rattle.links.specs.Tables.{receiving_rows}
use Rattle.links.specs.declared.Side.TheVariants.{Provisioner}
use Rattle.links.specs.declared.Link.{Link}
use Rattle.station.specs.Calls.{station_of, receiving, received_of}

-- a call of `receive`, by its contract: the answer, the records handed back, and the area afterwards
abbrev pub receive : ReceivingStep
receive σ f = receiving σ.links σ.area f

-- eight records "in a state that isn't bad", and an area of 11,752 octets, "whatever the lent area holds"
pub record Eight (σ : Station) : Type 0 where
  pub links : length σ.links ≡ 8
  pub area : length σ.area ≡ 11752
  pub not_bad : good Provisioner σ.links ≡ true

-- records and area after calls of `receive`, and of the local Open, Send and Close, each of which takes them as the call before left them
abbrev pub after_all : Station → List Operation → Station
after_all σ operations = state_after (operate_by receive Provisioner) σ operations

pub record Demands : Type 0 where
  -- what a call hands back, with the area afterwards, is the station that the next call is stated of
  pub handed : (links : List Link) (area f : List ℕ)
      → ((received_of (receiving links area f)).answer, station_of (received_of (receiving links area f)).links (receiving links area f).1.area) ≡ receiving links area f
  -- the receiving table: "given exactly when"
  pub table : (links : List Link) (area f : List ℕ) → Octets f → ByTable (told (receiving links area f).0) (receiving_rows provisioner (station_of links area) f)
  -- demand 2, back: a message cut and received is given back, whatever comes in between for the other seven sockets
  pub back : (σ : Station) → Eight σ → (s : Socket) → is_socket s 8 ≡ true → (m : Message) → ReadyFor Provisioner (link_at σ.links s) m
      → (operations : List Operation) → All (MayCome provisioner σ s m) operations → CutComes provisioner σ s m operations
      → GivenBack provisioner σ s m receive operations
  -- demand 2, only: what is delivered came by its exact cut, whatever calls were made, the local ones and the refused ones among them
  pub only : (σ : Station) → length σ.links ≡ 8 → (operations : List Operation) → All (Offered provisioner) operations → (f : List ℕ) → Octets f
      → (values : List ℕ) → told (receive (after_all σ operations) f).0 ≡ answered "delivered" values → Delivery provisioner σ operations f values
  -- demand 3: one claim about the list of calls
  pub mixture : (σ : Station) → Eight σ → (message : Socket → Message) → ((s : Socket) → is_socket s 8 ≡ true → ReadyFor Provisioner (link_at σ.links s) (message s))
      → (cs : List Call) → All (Right σ message) cs → Claim σ message receive cs
