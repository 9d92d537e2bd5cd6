-- Laws of hexadecimal text: its length, each octet and each digit by its place, and that reading takes back what writing wrote.
use Prim.Native.Nat.{ℕ, zero, suc, ◌+◌, ◌*◌, ◌-◌, ◌/◌, ◌%◌, ◌<◌, ◌≤◌}
use native.Mathlib.Numerals.{add-one}
use native.Mathlib.Nat.{zero-add}
use native.Mathlib.Omega.{arith}
use mathlib.Core.Bool.{true, ◌&&◌}
use mathlib.Core.List.{List, [], ◌∷◌}
use mathlib.Core.Path.{◌≡◌, refl, sym, ap, ap₂, ◌∙◌}
use lib.Dec.{leb}
use lib.ListN.{length, drop, set, get_or}
use lib.Seq.{drop-cons, paste, paste-suc, take-length}
use borrow.Author.Tests.{le-leb, lt-leb, eq-eqb, leb-true, leb-false}
use Rattle.octets.specs.Numbers.{Octets}
use Rattle.octets.specs.Parts.{write}
use Rattle.octets.proofs.Tests.{cases, both_hold, holds-both}
use Rattle.hexadecimal.specs.Hex.{value_of, digit_of, all_digits, is_hexadecimal, octets_of, text_of, encoded_output}

-- ---- lengths

pub length-text : (l : List ℕ) → length (text_of l) ≡ 2 * length l
length-text [] = refl
length-text (x ∷ l) = omega (arith, length-text l)

pub length-octets : (t : List ℕ) → length (octets_of t) ≡ length t / 2
length-octets [] = refl
length-octets (c ∷ []) = refl
length-octets (c ∷ d ∷ t) = omega (arith, length-octets t)

-- ---- by places

twice : (j : ℕ) → 2 * suc j ≡ suc (suc (2 * j))
twice j = omega arith

-- one digit more, for a loop over the text
pub digits_step : (t : List ℕ) (i : ℕ) → i < length t → all_digits (drop i t) ≡ (leb (value_of (get_or t i 0)) 15 && all_digits (drop (i + 1) t))
digits_step t i h = rw (add-one, drop-cons t i 0)

digits-cons : (c : ℕ) (t : List ℕ) → all_digits (c ∷ t) ≡ true → (value_of c ≤ 15) × (all_digits t ≡ true)
digits-cons c t e = let h = both_hold {a = leb (value_of c) 15} e in (leb-true _ 15 h.0, h.1)

-- the value of a digit, by its place
pub digit_at : (t : List ℕ) (i : ℕ) → all_digits t ≡ true → i < length t → value_of (get_or t i 0) ≤ 15
digit_at [] i e h = absurd (omega arith)
digit_at (c ∷ t) zero e h = (digits-cons c t e).0
digit_at (c ∷ t) (suc i) e h = digit_at t i (digits-cons c t e).1 (omega arith)

-- an octet, by its place
octet-at : (t : List ℕ) (j : ℕ) → j < length t / 2 → get_or (octets_of t) j 0 ≡ value_of (get_or t (2 * j) 0) * 16 + value_of (get_or t (suc (2 * j)) 0)
octet-at [] j h = absurd (omega arith)
octet-at (c ∷ []) j h = absurd (omega arith)
octet-at (c ∷ d ∷ t) zero h = refl
octet-at (c ∷ d ∷ t) (suc j) h = rw twice (octet-at t j (omega arith))

-- the two digits of an octet, by its place
text_at : (l : List ℕ) (j : ℕ) → j < length l
    → (get_or (text_of l) (2 * j) 0 ≡ digit_of (get_or l j 0 / 16)) × (get_or (text_of l) (suc (2 * j)) 0 ≡ digit_of (get_or l j 0 % 16))
text_at [] j h = absurd (omega arith)
text_at (x ∷ l) zero h = (refl, refl)
text_at (x ∷ l) (suc j) h = rw twice (text_at l j (omega arith))

-- ---- turns of the loops that write

pub octets-turn : (o t : List ℕ) (j : ℕ) → j < length t / 2 → length t / 2 ≤ length o
    → set (paste o 0 (octets_of t) j) j (value_of (get_or t (2 * j) 0) * 16 + value_of (get_or t (2 * j + 1) 0)) ≡ paste o 0 (octets_of t) (j + 1)
octets-turn o t j h fits =
    rw (add-one (2 * j), add-one j, ← (octet-at t j h))
    (ap (λ (i : ℕ). set (paste o 0 (octets_of t) j) i (get_or (octets_of t) j 0)) (sym (zero-add j))
    ∙ paste-suc o 0 (octets_of t) j 0 (omega arith) (omega (arith, length-octets t)))

pub text-turn : (o l : List ℕ) (at j : ℕ) → j < length l → at + 2 * length l ≤ length o
    → set (set (paste o at (text_of l) (2 * j)) (at + 2 * j) (digit_of (get_or l j 0 / 16))) (at + 2 * j + 1) (digit_of (get_or l j 0 % 16))
    ≡ paste o at (text_of l) (2 * (j + 1))
text-turn o l at j h fits =
    let next : at + 2 * j + 1 ≡ at + suc (2 * j) = omega arith in
    rw (next, add-one j, twice j, ← (text_at l j h).0, ← (text_at l j h).1, paste-suc o at (text_of l) (2 * j) 0 (omega arith) (omega (arith, length-text l)))
    (paste-suc o at (text_of l) (suc (2 * j)) 0 (omega arith) (omega (arith, length-text l)))

-- a list that has been written whole
pub written : (o : List ℕ) (at : ℕ) (d : List ℕ) (n : ℕ) → n ≡ length d → paste o at d n ≡ write o at d
unfolding write
written o at d n e = rw (e, take-length d)

-- digits that fit are written at their place
pub encoded-fits : (l o : List ℕ) (at : ℕ) → at + 2 * length l ≤ length o → encoded_output l o at ≡ write o at (text_of l)
unfolding encoded_output
encoded-fits l o at h = rw (le-leb at (length o) (omega arith), le-leb (2 * length l) (length o - at) (omega arith))

-- ---- there and back

pub octets-are-octets : (t : List ℕ) → all_digits t ≡ true → Octets (octets_of t)
octets-are-octets [] e i = omega arith
octets-are-octets (c ∷ []) e i = omega arith
octets-are-octets (c ∷ d ∷ t) e zero = omega (arith, digits-cons c (d ∷ t) e, digits-cons d t (digits-cons c (d ∷ t) e).1)
octets-are-octets (c ∷ d ∷ t) e (suc i) = octets-are-octets t (digits-cons d t (digits-cons c (d ∷ t) e).1).1 i

value-digit : (v : ℕ) → v < 16 → value_of (digit_of v) ≡ v
unfolding value_of digit_of
value-digit v h =
    cases (leb v 9) (λ e. rw (e, le-leb 48 (48 + v) (omega arith), le-leb (48 + v) 57 (omega (arith, leb-true v 9 e))) (omega arith))
    (λ e. let b : 9 < v = leb-false v 9 e in
    rw (e, le-leb 48 (55 + v) (omega arith), lt-leb (55 + v) 57 (omega arith), le-leb 65 (55 + v) (omega arith), le-leb (55 + v) 70 (omega arith)) (omega arith))

module _ (x : ℕ) (h : x < 256) where
  high : value_of (digit_of (x / 16)) ≡ x / 16
  high = value-digit (x / 16) (omega arith)

  low : value_of (digit_of (x % 16)) ≡ x % 16
  low = value-digit (x % 16) (omega arith)

text-digits : (l : List ℕ) → Octets l → all_digits (text_of l) ≡ true
text-digits [] o = refl
text-digits (x ∷ l) o =
    rw (high x (o 0), low x (o 0), le-leb (x / 16) 15 (omega (arith, o 0)), le-leb (x % 16) 15 (omega arith)) (text-digits l (λ i. o (suc i)))

pub text-hexadecimal : (l : List ℕ) → Octets l → is_hexadecimal (text_of l) ≡ true
text-hexadecimal l o = holds-both (eq-eqb (length (text_of l) % 2) 0 (omega (arith, length-text l))) (text-digits l o)

pub octets-back : (l : List ℕ) → Octets l → octets_of (text_of l) ≡ l
octets-back [] o = refl
octets-back (x ∷ l) o =
    ap₂ (λ (y : ℕ) (r : List ℕ). y ∷ r) (omega (arith, high x (o 0), low x (o 0))) (octets-back l (λ i. o (suc i)))
