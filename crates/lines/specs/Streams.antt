-- How far a program has come in its input and its output. What is read, and whether what is written out is taken, the system answers; all else
-- is said here.
use Rattle.std.specs.Prelude.{ℕ, suc, ◌+◌, ◌-◌, ◌≤◌, ◌<◌, Bool, true, false, ◌&&◌, ◌||◌, cond, List, [], ◌∷◌, ◌++◌, ◌≡◌, leb, ltb, eqb, length, take, drop, min, unwrap_or, Option, Some, None, Result, Ok, Err}
use Rattle.std.specs.declared.io.Error.{Error}
use Rattle.octets.specs.Parts.{part, write}
use Rattle.lines.specs.declared.Streams.{Streams}

-- nothing read and nothing waiting
abbrev pub nothing_read : Streams
nothing_read = record { from = 0; to = 0; ends = false; filled = 0; found = true; over = false; waiting = 0; taken = true }

-- ---- the input

-- the place of the first newline of a text; the text's end where there is none
abbrev pub newline_in : List ℕ → ℕ
newline_in [] = 0
newline_in (c ∷ text) = cond (eqb c 10) 0 (suc (newline_in text))

-- the place of the first newline from a place on, in a buffer that has so many octets of input
unfoldable pub newline_from : List ℕ → ℕ → ℕ → ℕ
newline_from input from filled = from + newline_in (drop from (take filled input))

-- the piece from a place on, up to its newline
abbrev pub piece_from : Streams → List ℕ → ℕ → ℕ → Streams
piece_from s input from filled = record {
  from = from;
  to = newline_from input from filled;
  ends = ltb (newline_from input from filled) filled;
  filled = filled;
  found = ltb from filled;
  over = false;
  waiting = s.waiting;
  taken = s.taken;
}

-- the piece found last
abbrev pub piece_in : Streams → List ℕ → List ℕ
piece_in s input = part input s.from (s.to - s.from)

-- where the piece after the last one begins: behind the newline that ended it
abbrev pub next_place : Streams → ℕ
next_place s = cond (s.ends && ltb s.to s.filled) (s.to + 1) s.to

-- the piece found last is within the input buffer, and the text that waits within the output buffer
pub record Within (s : Streams) (input output : List ℕ) : Type 0 where
  pub piece : s.from ≤ s.to
  pub input-fits : s.to ≤ length input
  pub output-fits : s.waiting ≤ length output

-- ---- the output

abbrev pub with_waiting : Streams → ℕ → Bool → Streams
with_waiting s waiting taken = record { from = s.from; to = s.to; ends = s.ends; filled = s.filled; found = s.found; over = s.over; waiting = waiting; taken = taken }

-- nothing waits any more: what waited was given to standard output, unless that takes no more, which stays so
pub record Flushed (s : Streams) (output : List ℕ) (r : Streams) : Type 0 where
  pub emptied : r ≡ with_waiting s 0 r.taken
  pub untaken : s.taken ≡ false → r.taken ≡ false
  -- text past the output's end is given to nobody
  pub past : length output < s.waiting → r.taken ≡ s.taken

-- there is room for so much more text
abbrev pub has_room : Streams → List ℕ → ℕ → Bool
has_room s output room = leb s.waiting (length output) && leb room (length output - s.waiting)

-- room made: where there is less, what waits is written out
pub record RoomMade (s : Streams) (output : List ℕ) (room : ℕ) (r : Streams) : Type 0 where
  pub enough : has_room s output room ≡ true → r ≡ s
  pub less : has_room s output room ≡ false → Flushed s output r

-- what waits with so much more text; as much as before where that is past the output's end, and nothing where what waited was past it
unfoldable pub waiting_after : ℕ → List ℕ → ℕ → ℕ
waiting_after waiting output count = cond (leb waiting (length output)) (cond (leb count (length output - waiting)) (waiting + count) waiting) 0

-- a text put behind what waits, room made for it before
pub record TextWaits (s : Streams) (output : List ℕ) (room : ℕ) (text : List ℕ) (r : Streams) (after : List ℕ) : Type 0 where
  pub before : Streams
  pub made : RoomMade s output room before
  pub put : after ≡ write output before.waiting text
  pub waits : r ≡ with_waiting before (before.waiting + length text) before.taken

-- what waits, at the output's start, is the end of all text put
pub record EndWaits (text : List ℕ) (s : Streams) (output : List ℕ) : Type 0 where
  pub before : List ℕ
  pub all : text ≡ before ++ take s.waiting output
  pub fits : s.waiting ≤ length output

-- ---- the next piece

-- input is left in its buffer
abbrev pub is_left : Streams → List ℕ → List ℕ → Bool
is_left s input output = leb s.filled (length input) && (leb s.waiting (length output) && ltb (next_place s) s.filled)

abbrev pub with_over : Streams → Bool → Streams
with_over s over = record { from = s.from; to = s.to; ends = s.ends; filled = s.filled; found = s.found; over = over; waiting = s.waiting; taken = s.taken }

-- how many octets the system's answer to a read says it had; none where it failed
abbrev pub answer_of : Result ℕ Error → Option ℕ
answer_of (Ok count) = Some count
answer_of (Err error) = None

-- the system's answer to a read says that the input is at its end: that it read nothing, and did not fail
abbrev pub is_end : Option ℕ → Bool
is_end (Some count) = eqb count 0
is_end None = false

-- how many octets of it there are: no more than there is room for
abbrev pub count_read : Option ℕ → ℕ → ℕ
count_read got room = min (unwrap_or got 0) room

-- the first piece of what was read, as the system answered
abbrev pub piece_read : Streams → Option ℕ → List ℕ → Streams
piece_read s got input = with_over (piece_from s input 0 (count_read got (length input))) (is_end got)

-- what was read: the first piece of it, what waits written out; nothing is read where standard output takes no more
pub record Read (s : Streams) (output : List ℕ) (r : Streams) (after : List ℕ) : Type 0 where
  pub first : r ≡ with_over (piece_from (with_waiting s 0 r.taken) after 0 r.filled) r.over
  pub fits : r.filled ≤ length after
  pub untaken : s.taken ≡ false → r.taken ≡ false
  pub past : length output < s.waiting → r.taken ≡ s.taken
  pub unread : r.taken ≡ false → r.filled ≡ 0
  -- the end is met only by a read, and where that had nothing
  pub untaken-open : r.taken ≡ false → r.over ≡ false
  pub over-empty : r.over ≡ true → r.filled ≡ 0

-- the next piece found, with the input buffer before and after: of what is left, or of what was read
pub record Found (s : Streams) (input output : List ℕ) (r : Streams) (after : List ℕ) : Type 0 where
  pub left : is_left s input output ≡ true → (r ≡ piece_from s input (next_place s) s.filled) × (after ≡ input)
  pub read : is_left s input output ≡ false → Read s output r after

-- a line is whole of which so many characters are held: "ended by a newline or the end of input (nothing after the last newline is no line)". A read
-- that failed ends no line
abbrev pub is_whole : Streams → ℕ → Bool
is_whole s held = s.ends || (s.over && ltb 0 held)
