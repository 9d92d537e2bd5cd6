-- A writer to a lent output: it writes its octets at the start and none after them, and gives their number, or refuses with 11.
use Rattle.std.specs.Prelude.{ℕ, Bool, ◌&&◌, cond, List, [], ◌∷◌, leb, length, Result, Ok, Err}
use Rattle.octets.specs.Parts.{write}
use Rattle.octets.specs.Told.{Told, refused, answered}
use Rattle.octets.specs.declared.WrongArgument.{WrongArgument}

-- refusal 11 as a value
abbrev pub wrong_argument : WrongArgument
wrong_argument = record {}

-- document 01's number and values of an answer
abbrev pub told : Result ℕ WrongArgument → Told
told (Ok n) = answered "written" (n ∷ [])
told (Err e) = refused 11

-- whether octets are written: the arguments are right, and the output is no shorter than they are
abbrev pub is_written : Bool → List ℕ → List ℕ → Bool
is_written right octets output = right && leb (length octets) (length output)

-- the answer of a writer: the number of octets, or refusal 11
unfoldable pub written : Bool → List ℕ → List ℕ → Result ℕ WrongArgument
written right octets output = cond (is_written right octets output) (Ok (length octets)) (Err wrong_argument)

-- the output after a writer: the octets at its start and nothing after them changed, or as it was
unfoldable pub output_after : Bool → List ℕ → List ℕ → List ℕ
output_after right octets output = cond (is_written right octets output) (write output 0 octets) output
