-- The layout of provisioning messages: one table, of the sizes of each type's fields behind the type octet.
use Rattle.std.specs.Prelude.{ℕ, ◌+◌, List, [], ◌∷◌, get_or, take}

-- THE TABLE. "Type and parameter length: 0 Invite 1, 1 Capabilities 11, 2 Start 5, 3 Public Key 64, 4 Input Complete 0, 5 Confirmation 16,
-- 6 Random 16, 7 Data 33, 8 Complete 0, 9 Failed 1." "Capabilities: elements 1, algorithms 2, key type 1, static type 1, output size 1, output
-- action 2, input size 1, input action 2."
abbrev pub layouts : List (List ℕ)
layouts =
    (1 ∷ [])
    ∷ (1 ∷ 2 ∷ 1 ∷ 1 ∷ 1 ∷ 2 ∷ 1 ∷ 2 ∷ [])
    ∷ (1 ∷ 1 ∷ 1 ∷ 1 ∷ 1 ∷ [])
    ∷ (32 ∷ 32 ∷ [])
    ∷ []
    ∷ (16 ∷ [])
    ∷ (16 ∷ [])
    ∷ (25 ∷ 8 ∷ [])
    ∷ []
    ∷ (1 ∷ [])
    ∷ []

-- the sizes of the fields of a type
abbrev pub sizes_of : ℕ → List ℕ
sizes_of type = get_or layouts type []

abbrev pub sum : List ℕ → ℕ
sum [] = 0
sum (n ∷ ns) = n + sum ns

-- the parameter length of a type
abbrev pub parameter_length : ℕ → ℕ
parameter_length type = sum (sizes_of type)

-- the place of field k of a type in the message, the type octet at 0
abbrev pub field_place : ℕ → ℕ → ℕ
field_place type k = 1 + sum (take k (sizes_of type))

-- the size of field k of a type
abbrev pub field_size : ℕ → ℕ → ℕ
field_size type k = get_or (sizes_of type) k 0
