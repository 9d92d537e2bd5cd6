-- THE LINES FOUND: whatever the system reads at a time, the lines that come of the pieces are those of all that was read.
use Rattle.std.specs.Prelude.{ℕ, ◌≤◌, Bool, true, false, cond, List, [], ◌∷◌, ◌++◌, ◌≡◌, eqb, ltb, length, take}
use Rattle.octets.specs.Cut.{joined}
use Rattle.lines.specs.Streams.{nothing_read, piece_in, with_waiting, is_left, Found, is_whole}
use Rattle.lines.specs.declared.Streams.{Streams}

-- the lines of a text, of which some characters came before: "ended by a newline or the end of input (nothing after the last newline is no line)".
-- What becomes of a line that a newline ends, the program says
abbrev pub lines_from : (List ℕ → List ℕ) → List ℕ → List ℕ → List (List ℕ)
lines_from ended held [] = cond (ltb 0 (length held)) (held ∷ []) []
lines_from ended held (c ∷ text) = cond (eqb c 10) (ended held ∷ lines_from ended [] text) (lines_from ended (held ++ (c ∷ [])) text)

abbrev pub lines_by : (List ℕ → List ℕ) → List ℕ → List (List ℕ)
lines_by ended text = lines_from ended [] text

-- the lines of a text that a newline ends, of which some characters came before: nothing behind the last newline is of them
abbrev pub ended_from : (List ℕ → List ℕ) → List ℕ → List ℕ → List (List ℕ)
ended_from ended held [] = []
ended_from ended held (c ∷ text) = cond (eqb c 10) (ended held ∷ ended_from ended [] text) (ended_from ended (held ++ (c ∷ [])) text)

abbrev pub ended_lines : (List ℕ → List ℕ) → List ℕ → List (List ℕ)
ended_lines ended text = ended_from ended [] text

-- a line stays what it is
abbrev pub as_it_stands : List ℕ → List ℕ
as_it_stands line = line

abbrev pub lines_of : List ℕ → List (List ℕ)
lines_of text = lines_by as_it_stands text

-- how far the reading has come: what was read at each time, the lines that were whole, and the characters held of the next one
pub record Reading : Type 0 where
  pub streams : Streams
  pub input : List ℕ
  pub read : List (List ℕ)
  pub whole : List (List ℕ)
  pub held : List ℕ

-- one if it is so, else none
abbrev pub one_if : Bool → List ℕ → List (List ℕ)
one_if true l = l ∷ []
one_if false l = []

-- the reading after a piece more, found as a call of the streams s says
abbrev pub read_on : (List ℕ → List ℕ) → Reading → Streams → List ℕ → Streams → List ℕ → Reading
read_on ended x s output r after =
    let line : List ℕ = x.held ++ piece_in r after in
    let whole : Bool = is_whole r (length line) in
    record {
      streams = r;
      input = after;
      read = x.read ++ cond (is_left s x.input output) [] (take r.filled after ∷ []);
      whole = x.whole ++ one_if whole (cond r.ends (ended line) line);
      held = cond whole [] line;
    }

-- at the start, whatever the input's buffer has
abbrev pub at_start : List ℕ → Reading
at_start input = record { streams = nothing_read; input = input; read = []; whole = []; held = [] }

-- readings that follow from the start, each by a call as it was answered, for as long as pieces are found. Between two calls the program may put text
-- to be written out
pub data Follows (ended : List ℕ → List ℕ) (input : List ℕ) : Reading → Type 0 where
  begins : Follows ended input (at_start input)
  goes : {x : Reading} → Follows ended input x → x.streams.found ≡ true → (s : Streams) → s ≡ with_waiting x.streams s.waiting s.taken
      → (output : List ℕ) → s.waiting ≤ length output → (r : Streams) (after : List ℕ) → Found s x.input output r after
      → Follows ended input (read_on ended x s output r after)

-- at the end of the input the whole lines are the lines of all that was read
abbrev pub LinesFound : Type 0
LinesFound =
    (ended : List ℕ → List ℕ) (input : List ℕ) (x : Reading) → Follows ended input x → x.streams.over ≡ true → x.whole ≡ lines_by ended (joined x.read)

-- a reading that has not met the end of the input, as where a read failed
pub record Begun (ended : List ℕ → List ℕ) (x : Reading) : Type 0 where
  -- where nothing more was found, the whole lines are those lines of all that was read that a newline ends
  pub lines : x.streams.found ≡ false → x.whole ≡ ended_lines ended (joined x.read)
  -- they are always the first lines of all that was read with whatever would have come behind it
  pub front : (more : List ℕ) → (rest : List (List ℕ)) × (lines_by ended (joined x.read ++ more) ≡ x.whole ++ rest)

abbrev pub LinesBegun : Type 0
LinesBegun = (ended : List ℕ → List ℕ) (input : List ℕ) (x : Reading) → Follows ended input x → x.streams.over ≡ false → Begun ended x
