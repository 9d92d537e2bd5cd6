-- What is promised of two lists compared, of the cut, and of every writer whose contract is `written` and `output_after`. The proofs are
-- `same-exactly` of `proofs/Parts.antt`; `all-cuts` of `proofs/Cut.antt`; `refusal-keeps`, `writes-front` and `writer-table` of `proofs/Writing.antt`.
use Rattle.std.specs.Prelude.{ℕ, suc, ◌+◌, ◌*◌, ◌≤◌, ◌<◌, Bool, true, ◌||◌, not, List, [], ◌∷◌, ◌++◌, ◌↔◌, ◌≡◌, ltb, length, drop, get_or}
use Rattle.octets.specs.Parts.{same}
use Rattle.octets.specs.Cut.{place_of, last_of, piece, cut, joined, placed}
use Rattle.octets.specs.Told.{refused, answered}
use Rattle.octets.specs.Tables.{Row, refusal, reply, ByTable}
use Rattle.octets.specs.Writing.{told, written, output_after}

-- lists are the same exactly when they are equal
abbrev pub SameExactly : Type 0
SameExactly = (l m : List ℕ) → (same l m ≡ true) ↔ (l ≡ m)

-- "Facts shared by 20- and 23-octet segments and by all proxy sizes are shown once over the size.": of the cut of l at a and b
pub record Cuts (a b : ℕ) (l : List ℕ) : Type 0 where
  -- the last piece's number is the least N with the length at most a + b N
  pub enough : length l ≤ a + b * last_of a b (length l)
  pub least : (N : ℕ) → length l ≤ a + b * N → last_of a b (length l) ≤ N
  -- so many pieces, each by its place
  pub count : length (cut a b l) ≡ suc (last_of a b (length l))
  pub pieces : (k : ℕ) → k ≤ last_of a b (length l) → get_or (cut a b l) k [] ≡ piece (place_of a b) (length l) l k
  -- "up to 20 octets, the others up to 23, all full but the last"
  pub first-most : length (piece (place_of a b) (length l) l 0) ≤ a
  pub further-most : (k : ℕ) → length (piece (place_of a b) (length l) l (suc k)) ≤ b
  pub first : 0 < last_of a b (length l) → length (piece (place_of a b) (length l) l 0) ≡ a
  pub further : (k : ℕ) → suc k < last_of a b (length l) → length (piece (place_of a b) (length l) l (suc k)) ≡ b
  -- each begins before the end of a list that isn't empty
  pub begins : (k : ℕ) → 0 < length l → k ≤ last_of a b (length l) → place_of a b k < length l
  -- one behind the other, and each written at its place, they are the list again
  pub together : joined (cut a b l) ≡ l
  pub back : (p : List ℕ) → length l ≤ length p → placed (place_of a b) (length l) l p (suc (last_of a b (length l))) ≡ l ++ drop (length l) p

abbrev pub AllCuts : Type 0
AllCuts = (a b : ℕ) (l : List ℕ) → 0 < b → Cuts a b l

-- a refused writer leaves its output as it was
abbrev pub RefusalKeeps : Type 0
RefusalKeeps = (right : Bool) (octets output : List ℕ) (n : ℕ) → told (written right octets output) ≡ refused n → output_after right octets output ≡ output

-- it writes its octets "and no octet after" them
abbrev pub WritesFront : Type 0
WritesFront =
    (right : Bool) (octets output values : List ℕ) → told (written right octets output) ≡ answered "written" values
    → output_after right octets output ≡ octets ++ drop (length octets) output

-- "11: an argument is wrong: [..] output shorter than what is written"
abbrev pub writer_rows : Bool → List ℕ → List ℕ → List Row
writer_rows right octets output =
    refusal 11 (not right || ltb (length output) (length octets))
    ∷ reply "written" (length octets ∷ []) true
    ∷ []

abbrev pub WriterTable : Type 0
WriterTable = (right : Bool) (octets output : List ℕ) → ByTable (told (written right octets output)) (writer_rows right octets output)
