-- What is promised of the replay program's lines beyond each call's contract. The proof is `proofs/Promises.antt`.
use Rattle.std.specs.Prelude.{ℕ, List, ◌≡◌, take}
use Rattle.script.specs.Script.{arguments_read, arguments_after}

-- the first 8,193 characters of a line, which is all that the program holds, are read as the line is
abbrev pub FrontDoesTheSame : Type 0
FrontDoesTheSame =
    (line output : List ℕ) → (arguments_read (take 8193 line) output ≡ arguments_read line output) × (arguments_after (take 8193 line) output ≡ arguments_after line output)
