-- The replay program's language (docs/REPLAY.md): lines of arguments, lines of answers, and the hash.
use Rattle.std.specs.Prelude.{ℕ, ◌+◌, ◌*◌, ◌-◌, ◌/◌, ◌%◌, Bool, true, ◌&&◌, cond, List, [], ◌∷◌, leb, length, take, Result, Ok, Err}
use Rattle.octets.specs.Parts.{part}
use Rattle.hexadecimal.specs.Hex.{decoded_of, decoded_output, digit_line}
use Rattle.hexadecimal.specs.declared.DecodeError.{DecodeError}
use Rattle.script.specs.declared.Malformed.{Malformed}
use Rattle.script.specs.declared.Outcome.{Outcome}
use Rattle.script.specs.declared.Outcome.TheVariants as O

-- no character is above F, so no digit is a small letter
abbrev pub capitals : List ℕ → Bool
capitals [] = true
capitals (c ∷ t) = leb c 70 && capitals t

-- the characters behind the two letters of a line's operation
abbrev pub behind : List ℕ → List ℕ
behind line = part line 2 (length line - 2)

-- a line of two letters or more and at most 8,192 characters, whose digits are capitals
unfoldable pub is_line : List ℕ → Bool
is_line line = leb 2 (length line) && (leb (length line) 8192 && capitals (behind line))

-- octets, two digits each
abbrev pub arguments_of : Result ℕ DecodeError → Result ℕ Malformed
arguments_of (Ok n) = Ok n
arguments_of (Err e) = Err (record {})

-- THE ARGUMENTS OF A LINE, and the output after them: their octets at its start, or as it was
unfoldable pub arguments_read : List ℕ → List ℕ → Result ℕ Malformed
arguments_read line output = cond (is_line line) (arguments_of (decoded_of (behind line) output)) (Err (record {}))

unfoldable pub arguments_after : List ℕ → List ℕ → List ℕ
arguments_after line output = cond (is_line line) (decoded_output (behind line) output) output

-- `!NN`, `?`, `OK`, or a letter and octets
unfoldable pub outcome_line : Outcome → List ℕ → List ℕ
outcome_line (O.Values letter count) values = digit_line (letter ∷ []) (take count values)
outcome_line O.Done values = digit_line (79 ∷ 75 ∷ []) []
outcome_line (O.Refused n) values = digit_line (33 ∷ (48 + n / 10 % 10) ∷ (48 + n % 10) ∷ []) []
outcome_line O.Malformed values = digit_line (63 ∷ []) []

-- "h := 1, then for each octet in order h := (h * 257 + octet) mod 4294967291"
unfoldable pub hash_step : ℕ → ℕ → ℕ
hash_step h octet = (h * 257 + octet) % 4294967291

abbrev pub hash_from : ℕ → List ℕ → ℕ
hash_from h [] = h
hash_from h (x ∷ l) = hash_from (hash_step h x) l
