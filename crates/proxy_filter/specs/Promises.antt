-- What is promised of the filter beyond each call's contract. The proofs are `proofs/Promises.antt`.
use Rattle.std.specs.Prelude.{ℕ, ◌<◌, ◌≤◌, true, List, [], ◌∷◌, ◌++◌, ◌≡◌, length, replicate}
use Rattle.octets.specs.Numbers.{octets16}
use Rattle.octets.specs.Told.{refused, answered}
use Rattle.filter_messages.specs.Messages.{told}
use Rattle.filter_messages.specs.declared.FilterType.{FilterType}
use Rattle.filter_messages.specs.declared.FilterType.TheVariants.{AcceptList, RejectList}
use Rattle.filter_entries.specs.Entries.{unused, is_on}
use Rattle.filter_entries.specs.Changes.{all_but}
use Rattle.filter_entries.specs.Promises.{Added, Removed}
use Rattle.proxy_filter.specs.Filters.{held, is_good}
use Rattle.proxy_filter.specs.Calls.{new, controlled, is_unicast, learned, passing, pass_told}
use Rattle.proxy_filter.specs.declared.Filter.{Filter}
use Rattle.proxy_filter.specs.declared.FilterStep.{FilterStep}

-- ---- "New: accept list, empty."

-- a list of a type with no address: none of its 16 places is in use
pub record Empty (type : FilterType) (f : Filter) : Type 0 where
  pub kind : f.kind ≡ type
  pub count : f.count ≡ 0
  pub entries : f.entries ≡ replicate 16 unused

abbrev pub AtStart : Type 0
AtStart = Empty AcceptList new

-- ---- every call: a refusal changes nothing, and a filter that isn't bad stays so

pub record Safe (f : Filter) (r : FilterStep) : Type 0 where
  pub refusal-keeps : (n : ℕ) → told r.answer ≡ refused n → r.filter ≡ f
  pub keeps-good : is_good f ≡ true → is_good r.filter ≡ true

pub record AllSafe : Type 0 where
  pub starts-good : is_good new ≡ true
  pub message : (f : Filter) (m : List ℕ) → Safe f (controlled f m)
  pub source : (f : Filter) (a : ℕ) → Safe f (learned f a)

-- ---- a message of addresses: "each address in turn"

-- addresses as octets, two octets each
abbrev pub octets_of : List ℕ → List ℕ
octets_of [] = []
octets_of (a ∷ more) = octets16 a ++ octets_of more

-- the filter after the message with an opcode and these addresses
abbrev pub after_message : ℕ → Filter → List ℕ → Filter
after_message opcode f l = (controlled f (opcode ∷ octets_of l)).filter

-- 1 adds and 2 removes the first address, and then the others, as messages of their own would
pub record InTurn (f : Filter) (a : ℕ) (more : List ℕ) : Type 0 where
  pub adds : after_message 0x01 f (a ∷ more) ≡ after_message 0x01 (after_message 0x01 f (a ∷ [])) more
  pub removes : after_message 0x02 f (a ∷ more) ≡ after_message 0x02 (after_message 0x02 f (a ∷ [])) more

abbrev pub AllInTurn : Type 0
AllInTurn = (f : Filter) (a : ℕ) (more : List ℕ) → is_good f ≡ true → length (a ∷ more) ≤ 16 → InTurn f a more

-- "none allowed": the filter is as it was; of a filter with the 16 places of its array
abbrev pub NoneChanges : Type 0
NoneChanges = (f : Filter) → length f.entries ≡ 16 → is_good f ≡ true → (after_message 0x01 f [] ≡ f) × (after_message 0x02 f [] ≡ f)

-- ---- a message of a type: "Opcode 0 sets the type (0 accept, 1 reject) and empties"

pub record TypeSet (f : Filter) : Type 0 where
  pub accept : Empty AcceptList (controlled f (0x00 ∷ 0 ∷ [])).filter
  pub reject : Empty RejectList (controlled f (0x00 ∷ 1 ∷ [])).filter

abbrev pub TypesSet : Type 0
TypesSet = (f : Filter) → is_good f ≡ true → TypeSet f

-- ---- one address added: the skips and the place are those of `Added`

-- the list held after the message that adds an address
abbrev pub after_adding : Filter → ℕ → List ℕ
after_adding f a = held (after_message 0x01 f (a ∷ []))

pub record Addition (f : Filter) (a : ℕ) : Type 0 where
  pub list : Added (held f) a (after_adding f a)
  -- the filter stays of its type
  pub type : (after_message 0x01 f (a ∷ [])).kind ≡ f.kind

abbrev pub Additions : Type 0
Additions = (f : Filter) (a : ℕ) → is_good f ≡ true → Addition f a

-- ---- one address removed: the skips and the place are those of `Removed`

-- the list held after the message that removes an address
abbrev pub after_removing : Filter → ℕ → List ℕ
after_removing f a = held (after_message 0x02 f (a ∷ []))

pub record Removal (f : Filter) (a : ℕ) : Type 0 where
  pub list : Removed (held f) a (after_removing f a)
  -- every other address stays, in order
  pub others : after_removing f a ≡ all_but a (held f)
  pub type : (after_message 0x02 f (a ∷ [])).kind ≡ f.kind

abbrev pub Removals : Type 0
Removals = (f : Filter) (a : ℕ) → is_good f ≡ true → Removal f a

-- ---- a source is "added to an accept list, removed from a reject list, with the same skips": as a message with its address alone would

pub record LearnsAs (f : Filter) (s : ℕ) : Type 0 where
  pub accept : f.kind ≡ AcceptList → (learned f s).filter ≡ after_message 0x01 f (s ∷ [])
  pub reject : f.kind ≡ RejectList → (learned f s).filter ≡ after_message 0x02 f (s ∷ [])

abbrev pub AllLearnAs : Type 0
AllLearnAs = (f : Filter) (s : ℕ) → is_good f ≡ true → is_unicast s ≡ true → LearnsAs f s

-- ---- learning, then passing

pub record Learning (f : Filter) (s : ℕ) : Type 0 where
  -- with an accept list that has room, or has the source already, and with a reject list the source passes after it
  pub accept-room : f.kind ≡ AcceptList → length (held f) < 16 → pass_told (passing (learned f s).filter s) ≡ answered "passes" []
  pub accept-there : f.kind ≡ AcceptList → is_on (held f) s ≡ true → pass_told (passing (learned f s).filter s) ≡ answered "passes" []
  pub reject : f.kind ≡ RejectList → pass_told (passing (learned f s).filter s) ≡ answered "passes" []
  -- a full accept list is as it was
  pub full : f.kind ≡ AcceptList → 16 ≤ length (held f) → (learned f s).filter ≡ f

-- of a filter with the 16 places of its array
abbrev pub AllLearning : Type 0
AllLearning = (f : Filter) (s : ℕ) → length f.entries ≡ 16 → is_good f ≡ true → is_unicast s ≡ true → Learning f s
