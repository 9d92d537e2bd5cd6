-- What is promised of the reader beyond its contract. The proofs are `proofs/Tables.antt`, of the table of answers, and `proofs/Promises.antt`.
use Rattle.std.specs.Prelude.{ℕ, cond, List, [], ◌∷◌, ◌++◌, ◌≡◌, eqb, length}
use Prim.Native.String.{String}
use Rattle.octets.specs.Numbers.{Octets, octets16}
use Rattle.octets.specs.Parts.{part}
use Rattle.octets.specs.Told.{answered}
use Rattle.octets.specs.Tables.{ByTable}
use Rattle.provisioning.specs.Message.{message_read, told}
use Rattle.provisioning.specs.Tables.{octet, capabilities_values, message_rows}

-- the reader's answer, by document 01's table
abbrev pub MessageTable : Type 0
MessageTable = (m : List ℕ) → ByTable (told (message_read m)) (message_rows m)

-- ---- every accepted message's fields are exactly its octets: none is skipped, none shared, and reserved values come through unchanged

-- numbers as octets, by their sizes, 1 or 2
abbrev pub number_octets : List ℕ → List ℕ → List ℕ
number_octets [] values = []
number_octets (size ∷ more) [] = []
number_octets (size ∷ more) (v ∷ values) = cond (eqb size 2) (octets16 v) (v ∷ []) ++ number_octets more values

-- the octets of the long fields of the message m, by place and length
abbrev pub long_octets : List ℕ → List ℕ → List ℕ
long_octets m [] = []
long_octets m (place ∷ []) = []
long_octets m (place ∷ size ∷ more) = part m place size ++ long_octets m more

abbrev pub Says : List ℕ → String → List ℕ → Type 0
Says m name values = told (message_read m) ≡ answered name values

-- the type, and the octets of the values told
pub record FieldsAreOctets (m : List ℕ) : Type 0 where
  pub invite : (values : List ℕ) → Says m "Invite" values → m ≡ 0 ∷ values
  pub capabilities : (values : List ℕ) → Says m "Capabilities" values → m ≡ 1 ∷ number_octets (1 ∷ 2 ∷ 1 ∷ 1 ∷ 1 ∷ 2 ∷ 1 ∷ 2 ∷ []) values
  pub start : (values : List ℕ) → Says m "Start" values → m ≡ 2 ∷ values
  pub public-key : (values : List ℕ) → Says m "Public Key" values → m ≡ 3 ∷ long_octets m values
  pub input-complete : (values : List ℕ) → Says m "Input Complete" values → m ≡ 4 ∷ values
  pub confirmation : (values : List ℕ) → Says m "Confirmation" values → m ≡ 5 ∷ long_octets m values
  pub random : (values : List ℕ) → Says m "Random" values → m ≡ 6 ∷ long_octets m values
  pub provisioning-data : (values : List ℕ) → Says m "Data" values → m ≡ 7 ∷ long_octets m values
  pub complete : (values : List ℕ) → Says m "Complete" values → m ≡ 8 ∷ values
  pub failed : (values : List ℕ) → Says m "Failed" values → m ≡ 9 ∷ values

abbrev pub AllFieldsAreOctets : Type 0
AllFieldsAreOctets = (m : List ℕ) → Octets m → FieldsAreOctets m

-- Capabilities, field by field: each value is the octets at its own place, and the message ends behind the last
pub record CapabilitiesAt (m values : List ℕ) : Type 0 where
  pub type : octet m 0 ≡ 1
  pub fields : values ≡ capabilities_values m
  pub long : length m ≡ 12

abbrev pub CapabilitiesInPlace : Type 0
CapabilitiesInPlace = (m values : List ℕ) → Says m "Capabilities" values → CapabilitiesAt m values
