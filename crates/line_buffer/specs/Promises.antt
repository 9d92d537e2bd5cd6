-- What is promised of a line's buffer over all pieces of a line. The proof is `proofs/Promises.antt`.
use Rattle.std.specs.Prelude.{ℕ, ◌≤◌, List, [], ◌∷◌, ◌++◌, ◌≡◌, length, take}
use Rattle.octets.specs.Cut.{joined}
use Rattle.line_buffer.specs.Buffer.{held_after, held_line}

-- the buffer after pieces, and how many characters it holds
abbrev pub held_all : List ℕ → ℕ → List (List ℕ) → List ℕ × ℕ
held_all line held [] = (line, held)
held_all line held (piece ∷ pieces) = held_all (held_line line held piece) (held_after line held piece) pieces

-- what is held is the line's front, as much of it as the buffer has room for, however it came in pieces
abbrev pub HoldsFront : Type 0
HoldsFront =
    (line : List ℕ) (held : ℕ) (pieces : List (List ℕ)) → held ≤ length line
    → take (held_all line held pieces).1 (held_all line held pieces).0 ≡ take (length line) (take held line ++ joined pieces)
