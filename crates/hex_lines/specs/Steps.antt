-- What the functions under `write_line` write.
use Rattle.std.specs.Prelude.{ℕ, ◌+◌, ◌≤◌, List, map, length}
use Rattle.octets.specs.Cut.{up_to, joined}
use Rattle.pb_adv_writing.specs.Writing.{segment_frame, SegmentAsked}
use Rattle.transactions.specs.declared.TransactionNumber.{TransactionNumber}
use Rattle.hex_lines.specs.Lines.{frame_line}

-- the line of segment k of a message
unfoldable pub segment_line : TransactionNumber → List ℕ → ℕ → List ℕ
segment_line t m k = frame_line (segment_frame 1 t m k)

-- the lines of its first k segments
unfoldable pub first_lines : TransactionNumber → List ℕ → ℕ → List ℕ
first_lines t m k = joined (map (segment_line t m) (up_to k))

-- what the writing of segment k's line asks: a segment that can be written, and room for its line
pub record LineAsked (t : TransactionNumber) (m : List ℕ) (k : ℕ) (output : List ℕ) (at : ℕ) : Type 0 where
  pub segment : SegmentAsked m k
  pub room : at + length (segment_line t m k) ≤ length output
