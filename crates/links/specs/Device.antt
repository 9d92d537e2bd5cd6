-- A DEVICE'S END, in the words of document 02's request [1] and by none of the tests of `Station.antt`: what an Open does, and the answers that differ
-- from those of the provisioner's end. The proof is `proofs/Device.antt`.
use Rattle.std.specs.Prelude.{ℕ, true, false, List, [], ◌∷◌, ◌≢◌, ◌⊎◌, ◌≡◌, length, Result, Ok, Err}
use Rattle.links.specs.declared.Answer.{Answer}
use Rattle.pb_adv.specs.Frame.{link_id}
use Rattle.pb_adv.specs.Tables.{malformed, is_control}
use Rattle.links.specs.Links.{device}
use Rattle.links.specs.Bad.{blank_record, LinkNotBad}
use Rattle.links.specs.Station.{Station, received}
use Rattle.links.specs.Demand2.{IsOpen}
use Rattle.links.specs.declared.Side.TheVariants.{Device}
use Rattle.links.specs.declared.LinkState.TheVariants as S
use Rattle.links.specs.declared.Link.{Link}
use Rattle.links.specs.declared.Refusal.{Refusal}
use Rattle.links.specs.declared.Refusal.TheVariants as R
use Rattle.links.specs.declared.Answer.TheVariants as A

-- "one session": its record and its area
abbrev pub device_of : Link → List ℕ → Station
device_of l area = record { links = l ∷ []; area = area }

module _ (own : List ℕ) (l : Link) (area : List ℕ) where
  -- a receiving call
  abbrev pub heard : List ℕ → Result Answer Refusal × Station
  heard f = received (device own) (device_of l area) f

  -- a refusal, and nothing changed
  abbrev pub refuses : Refusal → Result Answer Refusal × Station
  refuses r = (Err r, device_of l area)

  -- a UUID of 16 octets, "1,469 octets of area", and a record that isn't bad
  pub record Session : Type 0 where
    pub uuid : length own ≡ 16
    pub room : length area ≡ 1469
    pub not_bad : LinkNotBad Device l

  pub record Hears : Type 0 where
    -- "opened by an Open frame whose UUID is its own ('opened')": a blank record with the Link ID, which sends from 0x80; the area stays
    pub opened : l.state ≡ S.Free → (id : ℕ) (f : List ℕ) → IsOpen id own f → heard f ≡ (Ok A.Opened, device_of (blank_record Device S.Open id) area)
    -- "another such Open for the same Link ID answers 'already' and changes nothing"
    pub already : l.state ≡ S.Open → (f : List ℕ) → IsOpen l.id own f → heard f ≡ (Ok A.Already, device_of l area)
    -- "16 (busy with another link)"
    pub busy : l.state ≡ S.Open → (id : ℕ) → id ≢ l.id → (f : List ℕ) → IsOpen id own f → heard f ≡ refuses R.Busy
    -- "15 (other UUID), then 16": with whatever Link ID, and whether it is open or not
    pub other : (id : ℕ) (uuid : List ℕ) → uuid ≢ own → (f : List ℕ) → IsOpen id uuid f → heard f ≡ refuses R.OtherUuid
    -- "an Ack gets 5"; where there is no link, or for another Link ID, 3, which comes before 5
    pub ack : l.state ≡ S.Open → (f : List ℕ) → malformed f ≡ false → is_control 1 f ≡ true → link_id f ≡ l.id → heard f ≡ refuses R.WrongDirection
    pub elsewhere : (f : List ℕ) → malformed f ≡ false → is_control 1 f ≡ true → (l.state ≡ S.Free) ⊎ (link_id f ≢ l.id) → heard f ≡ refuses R.UnknownLink

pub record DevicesEnd : Type 0 where
  pub hears : (own : List ℕ) (l : Link) (area : List ℕ) → Session own l area → Hears own l area
  -- "an opening record 14"
  pub opening : (own : List ℕ) (l : Link) (area : List ℕ) → length own ≡ 16 → length area ≡ 1469 → l.state ≡ S.Opening
      → (f : List ℕ) → heard own l area f ≡ refuses own l area R.BadState
  -- 11: "area length", "UUID length", and before 14
  pub wrong-area : (own : List ℕ) (l : Link) (area : List ℕ) → length area ≢ 1469 → (f : List ℕ) → heard own l area f ≡ refuses own l area R.WrongArgument
  pub wrong-uuid : (own : List ℕ) (l : Link) (area : List ℕ) → length own ≢ 16 → (f : List ℕ) → heard own l area f ≡ refuses own l area R.WrongArgument
