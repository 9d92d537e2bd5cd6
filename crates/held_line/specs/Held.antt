-- A line of input of any length, held in 64 characters.
use Rattle.std.specs.Prelude.{ℕ, ◌+◌, Bool, ◌&&◌, cond, List, [], ◌∷◌, ◌++◌, leb, eqb, length, take, get_or, set}
use Rattle.hexadecimal.specs.Hex.{value_of}

abbrev pub is_digit : ℕ → Bool
is_digit c = leb (value_of c) 15

-- ---- the text that is held

-- one character more where 64 are held: a text that ends with another character than a digit stays; another character than a digit takes the last
-- place; a digit behind digits takes one away, so that their number stays even or odd
unfoldable pub full_after : List ℕ → ℕ → List ℕ
full_after held c = cond (is_digit (get_or held 63 0)) (cond (is_digit c) (take 63 held) (take 63 held ++ (c ∷ []))) held

-- one character more
unfoldable pub held_after : List ℕ → ℕ → List ℕ
held_after held c = cond (leb 64 (length held)) (full_after held c) (held ++ (c ∷ []))

-- a line, character by character
abbrev pub held_from : List ℕ → List ℕ → List ℕ
held_from held [] = held
held_from held (c ∷ line) = held_from (held_after held c) line

abbrev pub held_of : List ℕ → List ℕ
held_of line = held_from [] line

-- ---- the buffer that it is held in, at its start, and how many characters are held; nothing changes where the buffer has another length than 64

abbrev pub is_buffer : List ℕ → ℕ → Bool
is_buffer line held = eqb (length line) 64 && leb held 64

unfoldable pub full_count : List ℕ → ℕ → ℕ
full_count line c = cond (is_digit (get_or line 63 0)) (cond (is_digit c) 63 64) 64

unfoldable pub full_buffer : List ℕ → ℕ → List ℕ
full_buffer line c = cond (is_digit (get_or line 63 0)) (cond (is_digit c) line (set line 63 c)) line

unfoldable pub count_after : List ℕ → ℕ → ℕ → ℕ
count_after line held c = cond (is_buffer line held) (cond (leb 64 held) (full_count line c) (held + 1)) held

unfoldable pub buffer_after : List ℕ → ℕ → ℕ → List ℕ
buffer_after line held c = cond (is_buffer line held) (cond (leb 64 held) (full_buffer line c) (set line held c)) line
