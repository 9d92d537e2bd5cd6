-- What is promised of the holding of a line. The proofs are `proofs/Promises.antt`.
use Rattle.std.specs.Prelude.{ℕ, ◌≤◌, List, [], ◌++◌, ◌≡◌, ltb, length, take}
use Rattle.import_lines.specs.Lines.{line_step, line_area}
use Rattle.import_tray.specs.declared.Tray.{Tray}
use Rattle.held_line.specs.Held.{held_after, held_of, count_after, buffer_after}
use Rattle.held_line.specs.Lines.{empty_line, settled, held_piece, begun, held_text, Holds}
use Rattle.held_line.specs.declared.HeldLine.{HeldLine}

-- the buffer after one character more holds the text after one character more
abbrev pub BufferHolds : Type 0
BufferHolds =
    (line : List ℕ) (held c : ℕ) → length line ≡ 64 → held ≤ 64
    → (take (count_after line held c) (buffer_after line held c) ≡ held_after (take held line) c)
    × (length (buffer_after line held c) ≡ 64)
    × (count_after line held c ≤ 64)

-- pieces are held as the line that they make; at the end of input its last carriage return too; and a line that has characters is begun
pub record LineHolds : Type 0 where
  pub none : Holds empty_line []
  pub piece : (l : HeldLine) (line piece : List ℕ) → Holds l line → Holds (held_piece l piece) (line ++ piece)
  pub end : (l : HeldLine) (line : List ℕ) → Holds l line → held_text (settled l) ≡ held_of line
  pub some : (l : HeldLine) (line : List ℕ) → Holds l line → ltb 0 (begun l) ≡ ltb 0 (length line)

-- what is held of a line does the same as the line, whatever its length and content
abbrev pub HeldDoesTheSame : Type 0
HeldDoesTheSame =
    (line : List ℕ) (tray : Tray) (area : List ℕ) (number : ℕ)
    → (line_step tray area number (held_of line) ≡ line_step tray area number line)
    × (line_area tray area (held_of line) ≡ line_area tray area line)
