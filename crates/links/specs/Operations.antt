-- The calls of an end in any mixture: any octets received, and the local calls of any socket with any arguments.
use Rattle.std.specs.Prelude.{ℕ, List, ◌≡◌, Result}
use Rattle.links.specs.declared.Answer.{Answer}
use Rattle.links.specs.declared.Refusal.{Refusal}
use Rattle.octets.specs.Numbers.{Octets}
use Rattle.transactions.specs.declared.Socket.{Socket}
use Rattle.links.specs.Links.{End, side_of}
use Rattle.links.specs.Station.{Station, received, local_open, local_send, local_close}
use Rattle.links.specs.Interleaving.{state_after}
use Rattle.links.specs.declared.Side.{Side}
use Rattle.links.specs.declared.Side.TheVariants.{Provisioner}
use Rattle.links.specs.declared.Link.{Link}

pub data Operation : Type 0 where
  receiving : List ℕ → Operation
  opening : Socket → ℕ → Operation
  sending : Socket → ℕ → Operation
  closing : Socket → Operation

-- any step in the place of a receiving call, and one for each end; document 01's is `received`, and the idle programs are others
abbrev pub ReceivingStep : Type 0
ReceivingStep = Station → List ℕ → Result Answer Refusal × Station

abbrev pub Receiver : Type 0
Receiver = End → ReceivingStep

-- a local call leaves the area
abbrev pub at_records : Station → Result Answer Refusal × List Link → Result Answer Refusal × Station
at_records σ r = (r.0, record { links = r.1; area = σ.area })

-- AN OPERATION, refused or not, with such a step
abbrev pub operate_by : ReceivingStep → Side → Station → Operation → Result Answer Refusal × Station
operate_by step side σ (receiving f) = step σ f
operate_by step side σ (opening s id) = at_records σ (local_open side σ.links s id)
operate_by step side σ (sending s n) = at_records σ (local_send side σ.links s n)
operate_by step side σ (closing s) = at_records σ (local_close side σ.links s)

-- by document 01's rules
abbrev pub operate : End → Station → Operation → Result Answer Refusal × Station
operate end σ c = operate_by (received end) (side_of end) σ c

-- the station after operations
abbrev pub after_all : End → Station → List Operation → Station
after_all end σ operations = state_after (operate end) σ operations

-- what an end's host can do: what is received are octets, and a device's end has no local Open
abbrev pub Offered : End → Operation → Type 0
Offered end (receiving f) = Octets f
Offered end (opening s id) = side_of end ≡ Provisioner
Offered end (sending s n) = Unit {0}
Offered end (closing s) = Unit {0}
