-- What the program does in a turn: a piece of the input more is held, and where the line is then whole, it is ended.
use Rattle.std.specs.Prelude.{ℕ, ◌≤◌, true, false, List, ◌++◌, ◌≡◌, length, take}
use Rattle.hex_lines.specs.Lines.{line_text, line_next}
use Rattle.lines.specs.Streams.{piece_in, TextWaits, Found, is_whole}
use Rattle.segment_lines.specs.declared.Progress.{Progress}

-- the characters that are held of the line
abbrev pub held_text : Progress → List ℕ → List ℕ
held_text p line = take p.held line

-- a piece more: the next one of the input, held as far as the line's buffer has room
pub record PieceHeld (p : Progress) (input line output : List ℕ) (r : Progress) (input_after line_after : List ℕ) : Type 0 where
  pub found : Found p.streams input output r.streams input_after
  pub room : length line_after ≡ length line
  pub few : r.held ≤ length line_after
  pub text : held_text r line_after ≡ take (length line) (held_text p line ++ piece_in r.streams input_after)
  pub number : r.number ≡ p.number

-- the line's end: its text waits, and nothing is held
pub record LineEnded (p : Progress) (line output : List ℕ) (r : Progress) (output_after : List ℕ) : Type 0 where
  pub text : TextWaits p.streams output 3776 (line_text p.number (held_text p line)) r.streams output_after
  pub none : r.held ≡ 0
  pub next : r.number ≡ line_next p.number (held_text p line)

-- a turn
pub record Turn (p : Progress) (input line output : List ℕ) (r : Progress) (input_after line_after output_after : List ℕ) : Type 0 where
  pub read : Progress
  pub piece : PieceHeld p input line output read input_after line_after
  pub whole : is_whole read.streams read.held ≡ true → LineEnded read line_after output r output_after
  pub begun : is_whole read.streams read.held ≡ false → (r ≡ read) × (output_after ≡ output)
