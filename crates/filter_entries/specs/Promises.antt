-- ONE ADDRESS ADDED TO A LIST OR REMOVED FROM IT, whatever the list holds: "0x0000, already there (adding), absent (removing) or no room: skipped". The
-- proofs are `proofs/Promises.antt`.
use Rattle.std.specs.Prelude.{ℕ, ◌<◌, ◌≤◌, true, false, List, [], ◌∷◌, ◌++◌, ◌≢◌, ◌≡◌, length}
use Rattle.filter_messages.specs.declared.Change.{Change}
use Rattle.filter_messages.specs.declared.Change.TheVariants.{Add, Remove}
use Rattle.filter_entries.specs.Entries.{is_on}
use Rattle.filter_entries.specs.Changes.{changed, changed_all}

-- the list l, and what it is once a was added
pub record Added (l : List ℕ) (a : ℕ) (result : List ℕ) : Type 0 where
  -- "in order of adding": it comes after the others, which stay
  pub last : a ≢ 0 → is_on l a ≡ false → length l < 16 → result ≡ l ++ (a ∷ [])
  -- the three skips
  pub zero : a ≡ 0 → result ≡ l
  pub there : is_on l a ≡ true → result ≡ l
  pub full : 16 ≤ length l → result ≡ l

-- the list l, and what it is once a was removed
pub record Removed (l : List ℕ) (a : ℕ) (result : List ℕ) : Type 0 where
  -- "every address before the place stays, every one after it moves down by one"; the place is the first that has it
  pub around : (before : List ℕ) (e : ℕ) (after : List ℕ) → l ≡ before ++ e ∷ after → is_on before a ≡ false → e ≡ a → a ≢ 0
      → result ≡ before ++ after
  -- the two skips
  pub zero : a ≡ 0 → result ≡ l
  pub absent : is_on l a ≡ false → result ≡ l

-- "Each address in turn": first the first one, and then the others
pub record OneByOne (c : Change) (l : List ℕ) : Type 0 where
  pub none : changed_all c l [] ≡ l
  pub first : (a : ℕ) (more : List ℕ) → changed_all c l (a ∷ more) ≡ changed_all c (changed c l a) more

abbrev pub AllOneByOne : Type 0
AllOneByOne = (c : Change) (l : List ℕ) → OneByOne c l

abbrev pub AllAdded : Type 0
AllAdded = (l : List ℕ) (a : ℕ) → Added l a (changed Add l a)

abbrev pub AllRemoved : Type 0
AllRemoved = (l : List ℕ) (a : ℕ) → Removed l a (changed Remove l a)
