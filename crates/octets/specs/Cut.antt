-- ONE cut of a list: a first piece of a octets and further pieces of b octets, all full but the last.
-- PB-ADV cuts a message at 20 and 23; a proxy transfer of size z cuts it at z - 1 and z - 1.
use Rattle.std.specs.Prelude.{ℕ, zero, suc, ◌+◌, ◌*◌, ◌-◌, ◌/◌, min, List, [], ◌∷◌, ◌++◌, map, length}
use Rattle.octets.specs.Parts.{part, write}

-- where piece k stands
abbrev pub place_of : ℕ → ℕ → ℕ → ℕ
place_of a b zero = 0
place_of a b (suc k) = a + b * k

-- the number of the last piece of n octets, counted from 0: the least N with n at most a + b N (`last-enough`, `last-least`)
abbrev pub last_of : ℕ → ℕ → ℕ → ℕ
last_of a b n = (n - a + (b - 1)) / b

-- how many octets piece k of n octets has: it ends where the next one begins, or at the end
abbrev pub size_of : (ℕ → ℕ) → ℕ → ℕ → ℕ
size_of place n k = min (place (suc k)) n - place k

-- piece k of the first n octets of a list, by the places of the pieces
unfoldable pub piece : (ℕ → ℕ) → ℕ → List ℕ → ℕ → List ℕ
piece place n l k = part l (place k) (size_of place n k)

-- the numbers from 0 up to n, without n
unfoldable pub up_to : ℕ → List ℕ
up_to zero = []
up_to (suc n) = up_to n ++ (n ∷ [])

-- THE CUT
abbrev pub cut : ℕ → ℕ → List ℕ → List (List ℕ)
cut a b l = map (piece (place_of a b) (length l) l) (up_to (suc (last_of a b (length l))))

-- lists joined, one after the other
abbrev pub joined : List (List ℕ) → List ℕ
joined [] = []
joined (l ∷ ls) = l ++ joined ls

-- a list p after the first k pieces have been written to it, each at its place
abbrev pub placed : (ℕ → ℕ) → ℕ → List ℕ → List ℕ → ℕ → List ℕ
placed place n l p zero = p
placed place n l p (suc k) = write (placed place n l p k) (place k) (piece place n l k)
