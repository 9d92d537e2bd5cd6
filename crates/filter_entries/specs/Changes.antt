-- One address added or removed: "0x0000, already there (adding), absent (removing) or no room: skipped"
use Rattle.std.specs.Prelude.{ℕ, suc, cond, List, [], ◌∷◌, ◌++◌, leb, eqb, length, take, drop, Option, Some, None}
use Rattle.filter_messages.specs.declared.Change.{Change}
use Rattle.filter_messages.specs.declared.Change.TheVariants.{Add, Remove}
use Rattle.filter_entries.specs.Entries.{find}

-- an address put after the others, if there is room
abbrev pub appended : List ℕ → ℕ → List ℕ
appended l a = cond (leb 16 (length l)) l (l ++ (a ∷ []))

-- "every address before the place stays, every one after it moves down by one"
abbrev pub without : List ℕ → ℕ → List ℕ
without l at = take at l ++ drop (suc at) l

-- by the place at which the address was found
abbrev pub changed_at : Change → Option ℕ → List ℕ → ℕ → List ℕ
changed_at Add (Some p) l a = l
changed_at Add None l a = appended l a
changed_at Remove (Some p) l a = without l p
changed_at Remove None l a = l

-- ONE ADDRESS
unfoldable pub changed : Change → List ℕ → ℕ → List ℕ
changed c l a = cond (eqb a 0) l (changed_at c (find l a) l a)

-- "Each address in turn"
abbrev pub changed_all : Change → List ℕ → List ℕ → List ℕ
changed_all c l [] = l
changed_all c l (a ∷ more) = changed_all c (changed c l a) more

-- a list without an address, in order
abbrev pub all_but : ℕ → List ℕ → List ℕ
all_but a [] = []
all_but a (e ∷ l) = cond (eqb e a) (all_but a l) (e ∷ all_but a l)
