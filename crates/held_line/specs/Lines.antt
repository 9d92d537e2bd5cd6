-- The line so far, piece by piece, with its carriage returns: "One carriage return straight before a newline is no part of the line (one at the end of
-- input is)." Quotations are of `docs/IMPORT.md`.
use Rattle.std.specs.Prelude.{ℕ, ◌-◌, ◌≤◌, Bool, false, not, cond, List, [], ◌∷◌, ◌≡◌, eqb, length, take, get_or, replicate}
use Rattle.held_line.specs.Held.{held_of, count_after, buffer_after}
use Rattle.held_line.specs.declared.HeldLine.{HeldLine}

-- ---- carriage returns

abbrev pub ends_in_return : List ℕ → Bool
ends_in_return line = eqb (get_or line (length line - 1) 0) 13

-- a line that a newline ends
unfoldable pub without_return : List ℕ → List ℕ
without_return line = cond (ends_in_return line) (take (length line - 1) line) line

-- ---- what is held

abbrev pub line_of : List ℕ → ℕ → Bool → HeldLine
line_of characters count returned = record { characters = characters; count = count; returned = returned }

abbrev pub empty_line : HeldLine
empty_line = line_of (replicate 64 0) 0 false

-- one character more where it is wanted, and no carriage return behind it
abbrev pub held_if : HeldLine → Bool → ℕ → HeldLine
held_if l wanted c =
    line_of (cond wanted (buffer_after l.characters l.count c) l.characters) (cond wanted (count_after l.characters l.count c) l.count) false

-- a carriage return that came last is held
abbrev pub settled : HeldLine → HeldLine
settled l = held_if l l.returned 13

-- one character more: a carriage return isn't held yet
unfoldable pub held_character : HeldLine → ℕ → HeldLine
held_character l c =
    let x : HeldLine = held_if (settled l) (not (eqb c 13)) c in
    line_of x.characters x.count (eqb c 13)

unfoldable pub held_piece : HeldLine → List ℕ → HeldLine
held_piece l [] = l
held_piece l (c ∷ piece) = held_piece (held_character l c) piece

-- not 0 where the line so far has characters
abbrev pub begun : HeldLine → ℕ
begun l = cond l.returned 1 l.count

-- the characters that are held
abbrev pub held_text : HeldLine → List ℕ
held_text l = take l.count l.characters

-- it holds a line so far
pub record Holds (l : HeldLine) (line : List ℕ) : Type 0 where
  pub long : length l.characters ≡ 64
  pub few : l.count ≤ 64
  pub text : held_text l ≡ held_of (without_return line)
  pub returned : l.returned ≡ ends_in_return line
