-- A line's buffer: what it holds after a piece more.
use Rattle.std.specs.Prelude.{ℕ, ◌+◌, ◌-◌, min, cond, List, leb, length}
use Rattle.octets.specs.Parts.{copied}

-- how many characters of a piece a line's buffer has room for behind those it holds
abbrev pub fits : List ℕ → ℕ → List ℕ → ℕ
fits line held piece = min (length piece) (length line - held)

-- how many characters it then holds, and the buffer with them
unfoldable pub held_after : List ℕ → ℕ → List ℕ → ℕ
held_after line held piece = cond (leb (length line) held) (length line) (held + fits line held piece)

unfoldable pub held_line : List ℕ → ℕ → List ℕ → List ℕ
held_line line held piece = cond (leb (length line) held) line (copied line held piece 0 (fits line held piece))
