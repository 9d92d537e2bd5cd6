-- The promises of `specs/Promises.antt` but the table of answers.
use Prim.Native.Nat.{ℕ, ◌<◌}
use Prim.Native.String.{String}
use native.Mathlib.Omega.{arith}
use mathlib.Core.Bool.{Bool, false}
use mathlib.Core.List.{List, [], ◌∷◌, map}
use mathlib.Core.Path.{◌≡◌, refl, sym, ap, ◌∙◌}
use lib.Dec.{eqb}
use lib.ListN.{length, get_or}
use borrow.Author.Tests.{eqb-true}
use text.Mathlib.TextPositions.{eq_refl}
use Rattle.std.specs.Prelude.{Result}
use Rattle.octets.specs.Told.{answered}
use Rattle.octets.proofs.Tables.{alike}
use Rattle.provisioning.specs.Layout.{sizes_of}
use Rattle.provisioning.specs.Message.{type_of, message_of, message_told, told}
use Rattle.provisioning.specs.Promises.{number_octets, long_octets, Says, AllFieldsAreOctets, CapabilitiesInPlace}
use Rattle.provisioning.specs.declared.Message.{Message}
use Rattle.provisioning.specs.declared.MessageRefusal.{MessageRefusal}
use Rattle.provisioning.proofs.Laws.{Read, by-reading, by-type, parts, layout-all, one-part, two-part}

-- ---- a name is that of one type

abbrev types : List ℕ
types = 0 ∷ 1 ∷ 2 ∷ 3 ∷ 4 ∷ 5 ∷ 6 ∷ 7 ∷ 8 ∷ 9 ∷ []

-- a test of the ten types, by their list
each-type : (f : ℕ → Bool) (type : ℕ) → type < 10 → get_or (map f types) type false ≡ f type
each-type f = by-type (λ (type : ℕ). get_or (map f types) type false ≡ f type) refl refl refl refl refl refl refl refl refl refl

abbrev has_name : List ℕ → String → ℕ → Bool
has_name m name type = alike (answered name []) (message_told (message_of m type))

-- octets that are read as a message of a name, where of the ten types one alone has it
pub record Named (m : List ℕ) (name : String) (type : ℕ) (values : List ℕ) : Type 0 where
  pub read : Read m type
  pub says : message_told (message_of m type) ≡ answered name values

named : (m : List ℕ) (name : String) (type : ℕ) → map (has_name m name) types ≡ map (λ (t : ℕ). eqb t type) types → (values : List ℕ) → Says m name values
    → Named m name type values
named m name type alone values =
    by-reading m (λ (x : Result Message MessageRefusal). told x ≡ answered name values → Named m name type values)
    (λ r e. let z : ◌≡◌ {A = ℕ} 0 1 = cc in absurd (omega arith))
    (λ h r e.
    let same : has_name m name (type_of m) ≡ eqb (type_of m) type =
    sym (each-type (has_name m name) _ h) ∙ ap (λ (l : List Bool). get_or l (type_of m) false) alone ∙ each-type (λ (t : ℕ). eqb t type) _ h in
    let one : type_of m ≡ type = eqb-true _ type (sym same ∙ ap (alike (answered name [])) e ∙ eq_refl name) in
    record { read = rw one at r; says = rw one at e })

-- ---- the fields are the octets

module _ (m : List ℕ) where
  -- the values of the message of a type, where their octets are the parts that the layout cuts out
  by_name : (name : String) (type : ℕ) → map (has_name m name) types ≡ map (λ (t : ℕ). eqb t type) types
      → (octets : List ℕ → List ℕ) (found : List ℕ) → message_told (message_of m type) ≡ answered name found
      → (Read m type → parts m 1 (sizes_of type) ≡ octets found) → (values : List ℕ) → Says m name values → m ≡ type ∷ octets values
  by_name name type alone octets found e laid values says =
      let n = named m name type alone values says in
      let same : found ≡ values = cc in
      sym (layout-all m n.read) ∙ ap (λ (l : List ℕ). type ∷ l) (laid n.read) ∙ ap (λ (l : List ℕ). type ∷ octets l) same

pub fields-are-octets : AllFieldsAreOctets
unfolding message_of
fields-are-octets m o = record {
  invite = by_name m "Invite" 0 refl (λ (l : List ℕ). l) _ refl (λ r. rw (one-part m 1 (omega (arith, r.long))));
  capabilities = by_name m "Capabilities" 1 refl (number_octets (1 ∷ 2 ∷ 1 ∷ 1 ∷ 1 ∷ 2 ∷ 1 ∷ 2 ∷ [])) _ refl
      (λ r. let h : length m ≡ 12 = r.long in rw (
        one-part m 1 (omega arith),
        two-part m 2 o (omega arith),
        one-part m 4 (omega arith),
        one-part m 5 (omega arith),
        one-part m 6 (omega arith),
        two-part m 7 o (omega arith),
        one-part m 9 (omega arith),
        two-part m 10 o (omega arith),
      ));
  start = by_name m "Start" 2 refl (λ (l : List ℕ). l) _ refl
      (λ r. let h : length m ≡ 6 = r.long in rw (
        one-part m 1 (omega arith),
        one-part m 2 (omega arith),
        one-part m 3 (omega arith),
        one-part m 4 (omega arith),
        one-part m 5 (omega arith),
      ));
  public-key = by_name m "Public Key" 3 refl (long_octets m) _ refl (λ r. refl);
  input-complete = by_name m "Input Complete" 4 refl (λ (l : List ℕ). l) _ refl (λ r. refl);
  confirmation = by_name m "Confirmation" 5 refl (long_octets m) _ refl (λ r. refl);
  random = by_name m "Random" 6 refl (long_octets m) _ refl (λ r. refl);
  provisioning-data = by_name m "Data" 7 refl (long_octets m) _ refl (λ r. refl);
  complete = by_name m "Complete" 8 refl (λ (l : List ℕ). l) _ refl (λ r. refl);
  failed = by_name m "Failed" 9 refl (λ (l : List ℕ). l) _ refl (λ r. rw (one-part m 1 (omega (arith, r.long))));
}

-- ---- Capabilities, field by field

pub capabilities-in-place : CapabilitiesInPlace
unfolding message_of
capabilities-in-place m values says =
    let n = named m "Capabilities" 1 refl values says in
    let e = n.says in
    record { type = n.read.first; fields = cc; long = n.read.long }
