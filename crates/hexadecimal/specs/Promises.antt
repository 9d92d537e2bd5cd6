-- What is promised of hexadecimal text beyond each call's contract. The proofs are `proofs/Promises.antt`.
use Rattle.std.specs.Prelude.{ℕ, ◌+◌, ◌/◌, ◌%◌, ◌≤◌, ◌<◌, true, ◌||◌, not, List, [], ◌∷◌, ◌++◌, ◌⊎◌, ◌≡◌, eqb, ltb, length, drop}
use Rattle.octets.specs.Numbers.{Octets}
use Rattle.octets.specs.Told.{refused, answered}
use Rattle.octets.specs.Tables.{Row, refusal, reply, ByTable}
use Rattle.hexadecimal.specs.Hex.{value_of, digit_of, all_digits, octets_of, text_of, told, decoded_of, decoded_output}

-- 11 for an odd number of characters, one that is no digit, or an output shorter than the octets; else their number
abbrev pub decoding_rows : List ℕ → List ℕ → List Row
decoding_rows text output =
    refusal 11 (not (eqb (length text % 2) 0) || (not (all_digits text) || ltb (length output) (length text / 2)))
    ∷ reply "octets" (length text / 2 ∷ []) true
    ∷ []

abbrev pub DecodingTable : Type 0
DecodingTable = (text output : List ℕ) → ByTable (told (decoded_of text output)) (decoding_rows text output)

-- a refused reading leaves the output as it was
abbrev pub RefusalKeeps : Type 0
RefusalKeeps = (text output : List ℕ) (n : ℕ) → told (decoded_of text output) ≡ refused n → decoded_output text output ≡ output

-- "in hexadecimal, either case": the characters 0 to 9, A to F and a to f, and no other; "in capitals"
pub record Digits : Type 0 where
  pub decimal : (d : ℕ) → d ≤ 9 → (value_of (48 + d) ≡ d) × (digit_of d ≡ 48 + d)
  pub capital : (d : ℕ) → d ≤ 5 → (value_of (65 + d) ≡ 10 + d) × (digit_of (10 + d) ≡ 65 + d)
  pub small : (d : ℕ) → d ≤ 5 → value_of (97 + d) ≡ 10 + d
  pub other : (c : ℕ) → (c < 48) ⊎ ((57 < c) × (c < 65)) ⊎ ((70 < c) × (c < 97)) ⊎ (102 < c) → value_of c ≡ 16

-- what octets are written as is read back as those octets, into any output that has room for them
pub record TextReadsBack : Type 0 where
  pub octets : (l : List ℕ) → Octets l → octets_of (text_of l) ≡ l
  pub answer : (l output : List ℕ) → Octets l → length l ≤ length output → told (decoded_of (text_of l) output) ≡ answered "octets" (length l ∷ [])
  pub output : (l output : List ℕ) → Octets l → length l ≤ length output → decoded_output (text_of l) output ≡ l ++ drop (length l) output
