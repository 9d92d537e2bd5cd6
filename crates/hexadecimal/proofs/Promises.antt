-- The promises of `specs/Promises.antt`: a split on what `decoded_of` tests.
use Prim.Native.Nat.{ℕ, ◌+◌, ◌/◌, ◌%◌, ◌≤◌, ◌<◌}
use native.Mathlib.Omega.{arith}
use mathlib.Core.List.{List, [], ◌∷◌, ◌++◌}
use mathlib.Core.Logic.{◌⊎◌, inl, inr}
use mathlib.Core.Path.{◌≡◌, refl}
use lib.Dec.{eqb, leb}
use lib.ListN.{length, drop}
use borrow.Author.Tests.{le-leb, lt-leb}
use Rattle.octets.specs.Numbers.{Octets}
use Rattle.octets.specs.Told.{answered}
use Rattle.octets.proofs.Parts.{write-start}
use Rattle.octets.proofs.Tables.{by-table}
use Rattle.octets.proofs.Tests.{cases, lt_not_le}
use Rattle.hexadecimal.specs.Hex.{value_of, digit_of, all_digits, is_hexadecimal, text_of, told, decoded_of, decoded_output}
use Rattle.hexadecimal.specs.Promises.{decoding_rows, DecodingTable, RefusalKeeps, Digits, TextReadsBack}
use Rattle.hexadecimal.proofs.Laws.{length-text, text-hexadecimal, octets-back}

pub decoding-table : DecodingTable
unfolding decoded_of
decoding-table text output =
    by-table (told (decoded_of text output)) (decoding_rows text output) refl
    (rw (lt_not_le (length output) (length text / 2))
    (cases (eqb (length text % 2) 0)
    (λ e. rw e (cases (all_digits text) (λ d. rw d (cases (leb (length text / 2) (length output)) (λ f. rw f) (λ f. rw f))) (λ d. rw d)))
    (λ e. rw e)))

pub refusal-keeps : RefusalKeeps
unfolding decoded_of decoded_output
refusal-keeps text output n =
    cases (is_hexadecimal text)
    (λ h. rw h (cases (leb (length text / 2) (length output)) (λ f. rw f (λ q. let z : ◌≡◌ {A = ℕ} 0 1 = cc in absurd (omega arith))) (λ f. rw f (λ q. refl))))
    (λ h. rw h (λ q. refl))

-- no digit
no_digit : (c : ℕ) → (c < 48) ⊎ ((57 < c) × (c < 65)) ⊎ ((70 < c) × (c < 97)) ⊎ (102 < c) → value_of c ≡ 16
unfolding value_of
no_digit c (inl h) = rw (lt-leb 48 c h, lt-leb 65 c (omega arith), lt-leb 97 c (omega arith))
no_digit c (inr (inl h)) = rw (le-leb 48 c (omega arith), lt-leb c 57 h.0, lt-leb 65 c h.1, lt-leb 97 c (omega arith))
no_digit c (inr (inr (inl h))) =
    rw (le-leb 48 c (omega arith), lt-leb c 57 (omega arith), le-leb 65 c (omega arith), lt-leb c 70 h.0, lt-leb 97 c h.1)
no_digit c (inr (inr (inr h))) =
    rw (le-leb 48 c (omega arith), lt-leb c 57 (omega arith), le-leb 65 c (omega arith), lt-leb c 70 (omega arith), le-leb 97 c (omega arith), lt-leb c 102 h)

pub digits : Digits
unfolding value_of digit_of
digits = record {
  decimal = λ d h. (rw (le-leb 48 (48 + d) (omega arith), le-leb (48 + d) 57 (omega arith)) (omega arith), rw (le-leb d 9 h));
  capital = λ d h. (
    rw (le-leb 48 (65 + d) (omega arith), lt-leb (65 + d) 57 (omega arith), le-leb 65 (65 + d) (omega arith), le-leb (65 + d) 70 (omega arith)) (omega arith),
    rw (lt-leb (10 + d) 9 (omega arith)) (omega arith),
  );
  small = λ d h.
      rw (le-leb 48 (97 + d) (omega arith), lt-leb (97 + d) 57 (omega arith), le-leb 65 (97 + d) (omega arith), lt-leb (97 + d) 70 (omega arith), le-leb 97 (97 + d) (omega arith), le-leb (97 + d) 102 (omega arith))
      (omega arith);
  other = no_digit;
}

-- the text of octets, by its length
module _ (l output : List ℕ) (o : Octets l) (room : length l ≤ length output) where
  half : length (text_of l) / 2 ≡ length l
  half = omega (arith, length-text l)

  back-answer : told (decoded_of (text_of l) output) ≡ answered "octets" (length l ∷ [])
  unfolding decoded_of
  back-answer = rw (text-hexadecimal l o, half, le-leb (length l) (length output) room)

  back-output : decoded_output (text_of l) output ≡ l ++ drop (length l) output
  unfolding decoded_output
  back-output = rw (text-hexadecimal l o, half, le-leb (length l) (length output) room, octets-back l o) (write-start output l)

pub text-reads-back : TextReadsBack
text-reads-back = record { octets = octets-back; answer = back-answer; output = back-output }
