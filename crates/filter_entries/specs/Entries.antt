-- The entries of a filter, and the lookup of an address.
use Rattle.std.specs.Prelude.{ℕ, suc, Bool, true, false, ◌&&◌, ◌||◌, not, cond, List, [], ◌∷◌, leb, eqb, take, drop, Option, Some, None}

-- a place that is not in use
abbrev pub unused : ℕ
unused = 0

-- whether an address is on a list
abbrev pub is_on : List ℕ → ℕ → Bool
is_on [] a = false
is_on (e ∷ l) a = eqb e a || is_on l a

-- THE LOOKUP: the place of an address on a list, counted from k
unfoldable pub find_from : ℕ → List ℕ → ℕ → Option ℕ
find_from k [] a = None
find_from k (e ∷ l) a = cond (eqb e a) (Some k) (find_from (suc k) l a)

abbrev pub find : List ℕ → ℕ → Option ℕ
find l a = find_from 0 l a

-- ---- "a filter of over 16 addresses, with a repeat or 0x0000, or not 0 past its count" is bad

-- no repeat and no 0x0000
abbrev pub all_allowed : List ℕ → Bool
all_allowed [] = true
all_allowed (e ∷ l) = (not (eqb e 0) && not (is_on l e)) && all_allowed l

-- 0 everywhere
abbrev pub all_unused : List ℕ → Bool
all_unused [] = true
all_unused (e ∷ l) = eqb e 0 && all_unused l

-- ENTRIES THAT AREN'T BAD, of which the first n are held
abbrev pub are_good : ℕ → List ℕ → Bool
are_good n l = leb n 16 && (all_allowed (take n l) && all_unused (drop n l))
