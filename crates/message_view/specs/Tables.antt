-- The table of a read of one field, to be held beside document 01: its rows are written from the octets, the place and what is wanted. The proofs are
-- `proofs/Tables.antt`.
use Rattle.std.specs.Prelude.{ℕ, ◌+◌, Bool, true, cond, List, [], ◌∷◌, ◌≡◌, ltb, length, get_or}
use Rattle.octets.specs.Numbers.{big16}
use Rattle.octets.specs.Tables.{Row, refusal, reply, ByTable}
use Rattle.message_view.specs.Reading.{field_at, told}
use Rattle.message_view.specs.declared.Wanted.{Wanted}
use Rattle.message_view.specs.declared.Wanted.TheVariants as W

-- how many octets the field has
abbrev pub length_of : Wanted → ℕ
length_of W.Octet = 1
length_of W.Pair = 2
length_of (W.Long n) = n

-- "a read past the end"
abbrev pub is_past_end : List ℕ → ℕ → Wanted → Bool
is_past_end m place wanted = ltb (length m) (place + length_of wanted)

-- the field at the place; "long fields are given by place and length"
abbrev pub field_row : List ℕ → ℕ → Wanted → Row
field_row m place W.Octet = reply "octet" (get_or m place 0 ∷ []) true
field_row m place W.Pair = reply "pair" (big16 m place ∷ []) true
field_row m place (W.Long n) = reply "field" (place ∷ n ∷ []) true

-- "a read past the end gives 44"
abbrev pub field_rows : List ℕ → ℕ → Wanted → List Row
field_rows m place wanted = refusal 44 (is_past_end m place wanted) ∷ field_row m place wanted ∷ []

abbrev pub FieldTable : Type 0
FieldTable = (m : List ℕ) (place : ℕ) (wanted : Wanted) → ByTable (told (field_at m place wanted).field) (field_rows m place wanted)

-- where the view stands afterwards: past the end it "doesn't move", else it stands behind the field
abbrev pub PlaceAfter : Type 0
PlaceAfter =
    (m : List ℕ) (place : ℕ) (wanted : Wanted)
    → (field_at m place wanted).next ≡ cond (is_past_end m place wanted) place (place + length_of wanted)
