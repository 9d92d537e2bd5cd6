-- Hexadecimal text: two digits an octet, the high half first. Characters are ASCII octets.
use Rattle.std.specs.Prelude.{ℕ, ◌+◌, ◌*◌, ◌-◌, ◌/◌, ◌%◌, Bool, true, ◌&&◌, cond, List, [], ◌∷◌, ◌++◌, leb, eqb, length, Result, Ok, Err}
use Rattle.octets.specs.Parts.{write, within}
use Rattle.octets.specs.Told.{Told, refused, answered}
use Rattle.hexadecimal.specs.declared.DecodeError.{DecodeError}
use Rattle.hexadecimal.specs.declared.DecodeError.TheVariants.{NotHexadecimal, TooLong}

-- the value of a digit, of either case; 16 for any other character
unfoldable pub value_of : ℕ → ℕ
value_of c =
    cond (leb 48 c && leb c 57) (c - 48)
    (cond (leb 65 c && leb c 70) (c - 55)
    (cond (leb 97 c && leb c 102) (c - 87)
    16))

-- whether every character is a digit
abbrev pub all_digits : List ℕ → Bool
all_digits [] = true
all_digits (c ∷ t) = leb (value_of c) 15 && all_digits t

-- whether a text is octets: an even number of digits
abbrev pub is_hexadecimal : List ℕ → Bool
is_hexadecimal t = eqb (length t % 2) 0 && all_digits t

-- the octets that digits write
abbrev pub octets_of : List ℕ → List ℕ
octets_of [] = []
octets_of (c ∷ []) = []
octets_of (c ∷ d ∷ t) = (value_of c * 16 + value_of d) ∷ octets_of t

-- the digit of a value below 16, in capitals
unfoldable pub digit_of : ℕ → ℕ
digit_of v = cond (leb v 9) (48 + v) (55 + v)

-- the digits that write octets, in capitals
abbrev pub text_of : List ℕ → List ℕ
text_of [] = []
text_of (x ∷ l) = digit_of (x / 16) ∷ digit_of (x % 16) ∷ text_of l

-- document 01's number and values of an answer
abbrev pub told : Result ℕ DecodeError → Told
told (Ok n) = answered "octets" (n ∷ [])
told (Err NotHexadecimal) = refused 11
told (Err TooLong) = refused 11

-- the answer to a reading of a text into an output
unfoldable pub decoded_of : List ℕ → List ℕ → Result ℕ DecodeError
decoded_of text output =
    cond (is_hexadecimal text)
    (cond (leb (length text / 2) (length output)) (Ok (length text / 2)) (Err TooLong))
    (Err NotHexadecimal)

-- the output after it: the octets at its start and nothing else changed; as it was where the text is refused
unfoldable pub decoded_output : List ℕ → List ℕ → List ℕ
decoded_output text output =
    cond (is_hexadecimal text && leb (length text / 2) (length output)) (write output 0 (octets_of text)) output

-- an output with the digits of octets at a place; as it was where they don't fit
unfoldable pub encoded_output : List ℕ → List ℕ → ℕ → List ℕ
encoded_output octets output at = cond (within output at (2 * length octets)) (write output at (text_of octets)) output

-- a line: its first characters, the digits of octets, and a newline
unfoldable pub digit_line : List ℕ → List ℕ → List ℕ
digit_line head octets = head ++ (text_of octets ++ (10 ∷ []))
