-- THE DEMANDS OF A DEVICE'S END: "Demands 2 and 3 then read for either side; demand 3 with one link on this one" (document 02, request [1]), for the
-- calls that a host makes of the one record, its own UUID and the lent area of 1,469 octets; and the receiving table and the tables of the local calls.
-- What may come, is given back, came by its cut, is right and is claimed is said in `links`, `specs/Demand2.antt` and `Demand3.antt`, over either end.
-- What an Open does there is `links`, `specs/Device.antt`. The proofs are `proofs/Demands.antt`.
use Rattle.std.specs.Prelude.{ℕ, true, List, [], ◌∷◌, ◌≡◌}
use Rattle.octets.specs.Numbers.{Octets}
use Rattle.octets.specs.Told.{answered}
use Rattle.octets.specs.Tables.{ByTable}
use Rattle.links.specs.Links.{device, in_use, told}
use Rattle.links.specs.Station.{of_socket, received, local_send, local_close}
use Rattle.links.specs.Interleaving.{All}
use Rattle.links.specs.Operations.{Operation, after_all, Offered}
use Rattle.links.specs.Demand2.{MayCome, CutComes, GivenBack, Delivery, Opened}
use Rattle.links.specs.Demand3.{Message, Call, ReadyFor, Right, Claim}
use Rattle.links.specs.Tables.{receiving_rows, LocalTables}
use Rattle.links.specs.Device.{device_of, heard, Session}
use Rattle.links.specs.declared.Side.TheVariants.{Device}
use Rattle.links.specs.declared.LinkState.TheVariants as S
use Rattle.links.specs.declared.Link.{Link}
use Rattle.device.specs.Calls.{only_socket, handed_back, record_back}

module _ (own : List ℕ) (l : Link) (area : List ℕ) where
  pub record Demands : Type 0 where
    -- what a call hands back, with the area afterwards, is the session that the next call is stated of
    pub heard-back : (f : List ℕ) → Octets f → ((handed_back (heard own l area f)).answer, device_of (handed_back (heard own l area f)).link (heard own l area f).1.area) ≡ heard own l area f
    pub sent_back : (n : ℕ) → let r = local_send Device (l ∷ []) only_socket n in ((record_back r).answer, (record_back r).link ∷ []) ≡ r
    pub closed-back : let r = local_close Device (l ∷ []) only_socket in ((record_back r).answer, (record_back r).link ∷ []) ≡ r
    -- the receiving table, 15 and 16 in it, and those of the local Send and Close: "given exactly when"
    pub table : (f : List ℕ) → Octets f → ByTable (told (heard own l area f).0) (receiving_rows (device own) (device_of l area) f)
    pub local : LocalTables Device (l ∷ []) only_socket
    -- demand 2, back: a message cut and received is given back, whatever comes in between that is neither a segment nor a Close of the link nor the
    -- local Close
    pub back : Session own l area → (m : Message) → ReadyFor Device l m → (operations : List Operation) → All (MayCome (device own) (device_of l area) only_socket m) operations
        → CutComes (device own) (device_of l area) only_socket m operations → GivenBack (device own) (device_of l area) only_socket m (received (device own)) operations
    -- demand 2, only: what is delivered came by its exact cut, whatever calls were made, Opens, local ones and refused ones among them
    pub only : (operations : List Operation) → All (Offered (device own)) operations → (f : List ℕ) → Octets f
        → (values : List ℕ) → told (received (device own) (after_all (device own) (device_of l area) operations) f).0 ≡ answered "delivered" values
        → Delivery (device own) (device_of l area) operations f values
    -- a link in use, where there was none at the start, was opened by an Open with the device's own UUID
    pub opened : l.state ≡ S.Free → (operations : List Operation) → All (Offered (device own)) operations
        → in_use (of_socket only_socket (after_all (device own) (device_of l area) operations)).link.state ≡ true
        → Opened (device own) (device_of l area) only_socket (of_socket only_socket (after_all (device own) (device_of l area) operations)).link.id operations
    -- demand 3, "with one link": one claim about the list of calls
    pub mixture : Session own l area → (m : Message) → ReadyFor Device l m → (cs : List Call) → All (Right (device_of l area) (λ _. m)) cs
        → Claim (device_of l area) (λ _. m) (received (device own)) cs
