-- Laws of decimal numbers: a text read digit by digit, and what an answer tells of it.
use Rattle.std.specs.Prelude.{Some, None}
use Prim.Native.Nat.{ℕ, zero, suc, ◌+◌, ◌*◌, ◌-◌, ◌/◌, ◌%◌, ◌≤◌, ◌<◌}
use native.Mathlib.Omega.{arith}
use mathlib.Core.Bool.{true, false, ◌&&◌}
use mathlib.Core.List.{List, [], ◌∷◌, ◌++◌}
use mathlib.Core.Path.{◌≡◌, refl, sym}
use lib.Dec.{leb, eqb}
use lib.ListN.{length, drop, get_or}
use borrow.Author.Tests.{le-leb, lt-leb, leb-true, eqb-true, eqb-false}
use Rattle.octets.proofs.Loops.{left_here, stops, nothing_left}
use Rattle.octets.proofs.Tests.{cases, both_hold}
use Rattle.line_fields.specs.Lines.{digits_up_to, decimal_of}
use Rattle.rehearsal_lines.specs.Lines.{is_digit, all_decimal, value_from, is_decimal, decimal_read}

pub digit-so : (c : ℕ) → is_digit c ≡ true → (48 ≤ c) × (c ≤ 57)
unfolding is_digit
digit-so c e = let b = both_hold {a = leb 48 c} e in (leb-true 48 c b.0, leb-true c 57 b.1)

-- further digits never make a value smaller
grows : (value : ℕ) (text : List ℕ) → value ≤ value_from value text
grows value [] = omega arith
grows value (c ∷ text) = omega (arith, grows (value * 10 + (c - 48)) text)

-- ---- by what a text is

module _ (text : List ℕ) (most : ℕ) where
  pub no-digits : length text ≡ 0 → None ≡ decimal_read text most
  unfolding decimal_read
  no-digits e = rw e

  no-decimal : all_decimal text ≡ false → None ≡ decimal_read text most
  unfolding decimal_read
  no-decimal e = rw e (cases (leb 1 (length text)) (λ p. rw p) (λ p. rw p))

  too_much : most < value_from 0 text → None ≡ decimal_read text most
  unfolding decimal_read
  too_much h =
      rw (lt-leb (value_from 0 text) most h)
      (cases (leb 1 (length text)) (λ p. rw p (cases (all_decimal text) (λ q. rw q) (λ q. rw q))) (λ p. rw p))

  a-decimal : 1 ≤ length text → all_decimal text ≡ true → value_from 0 text ≤ most → Some (value_from 0 text) ≡ decimal_read text most
  unfolding decimal_read
  a-decimal some digits few = rw (le-leb 1 (length text) some, digits, le-leb (value_from 0 text) most few)

-- ---- the loop: from place i on, with the value of what stands before it

-- what is left decides as the whole text does
abbrev pub Left : List ℕ → ℕ → ℕ → Type 0
Left text value i = (all_decimal (drop i text) ≡ all_decimal text) × (value_from value (drop i text) ≡ value_from 0 text)

module _ (text : List ℕ) (value i : ℕ) (left : Left text value i) where
  module _ (h : i < length text) where
    -- the value with one digit more
    abbrev next : ℕ
    next = value * 10 + (get_or text i 0 - 48)

    next-left : value_from next (drop (i + 1) text) ≡ value_from 0 text
    next-left = rw (left_here text i 0 h) at left.1

    pub wrong-digit : (most : ℕ) → is_digit (get_or text i 0) ≡ false → None ≡ decimal_read text most
    wrong-digit most e =
        no-decimal text most
        (sym (stops all_decimal (λ c t. is_digit c) (λ c t. refl) text i 0 left.0 h refl e))

    pub next-too-much : (most : ℕ) → most < next → None ≡ decimal_read text most
    next-too-much most k = too_much text most (omega (arith, grows next (drop (i + 1) text), next-left))

  pub all_read : (most : ℕ) → 1 ≤ length text → length text ≤ i → value ≤ most → Some value ≡ decimal_read text most
  all_read most some h few =
      let e : value ≡ value_from 0 text = nothing_left (value_from value) text i left.1 h in
      rw e (a-decimal text most some (sym (nothing_left all_decimal text i left.0 h)) (omega arith))

-- ---- by what the answer is

module _ (text : List ℕ) (most : ℕ) where
  pub told-nothing : decimal_read text most ≡ None → is_decimal text most ≡ false
  unfolding decimal_read
  told-nothing = cases (is_decimal text most) (λ p. rw p (λ e. let z : ◌≡◌ {A = ℕ} 0 1 = cc in absurd (omega arith))) (λ p e. p)

  pub told-number : {n : ℕ} → decimal_read text most ≡ Some n → (is_decimal text most ≡ true) × (n ≡ value_from 0 text) × (n ≤ most)
  unfolding decimal_read
  told-number {n} =
      cases (is_decimal text most)
      (λ p. let few = leb-true (value_from 0 text) most (both_hold {a = all_decimal text} (both_hold {a = leb 1 (length text)} p).1).1 in
      rw p (λ e. let same : n ≡ value_from 0 text = cc in (refl, same, omega arith)))
      (λ p. rw p (λ e. let z : ◌≡◌ {A = ℕ} 0 1 = cc in absurd (omega arith)))

-- ---- a number's own digits

-- one digit behind a text
digits-snoc : (text : List ℕ) (c : ℕ) → all_decimal (text ++ (c ∷ [])) ≡ (all_decimal text && is_digit c)
digits-snoc [] c = cases (is_digit c) (λ e. rw e) (λ e. rw e)
digits-snoc (x ∷ text) c = cases (is_digit x) (λ e. rw e (digits-snoc text c)) (λ e. rw e)

value-snoc : (value : ℕ) (text : List ℕ) (c : ℕ) → value_from value (text ++ (c ∷ [])) ≡ value_from value text * 10 + (c - 48)
value-snoc value [] c = refl
value-snoc value (x ∷ text) c = value-snoc (value * 10 + (x - 48)) text c

a-digit : (d : ℕ) → d ≤ 9 → is_digit (48 + d) ≡ true
unfolding is_digit
a-digit d h = rw (le-leb 48 (48 + d) (omega arith), le-leb (48 + d) 57 (omega arith))

digits-read : (most n : ℕ) → n ≤ most → (all_decimal (digits_up_to most n) ≡ true) × (value_from 0 (digits_up_to most n) ≡ n)
digits-read zero n h = (refl, omega arith)
digits-read (suc most) n h =
    cases (eqb n 0)
    (λ e. rw e (refl, omega (arith, eqb-true n 0 e)))
    (λ e. let some : n ≡ 0 → ⊥ = eqb-false n 0 e in
    let r = digits-read most (n / 10) (omega arith) in
    let t = digits_up_to most (n / 10) in
    rw (e, digits-snoc t (48 + n % 10), value-snoc 0 t (48 + n % 10), r.0, r.1, a-digit (n % 10) (omega arith)) (refl, omega arith))

some-digits : (text : List ℕ) → 1 ≤ value_from 0 text → 1 ≤ length text
some-digits [] h = absurd (omega arith)
some-digits (c ∷ text) h = omega arith

-- the digits that are written for a number are read as it
pub own-digits : (n : ℕ) → (1 ≤ length (decimal_of n)) × (all_decimal (decimal_of n) ≡ true) × (value_from 0 (decimal_of n) ≡ n)
unfolding decimal_of is_digit
own-digits n =
    cases (eqb n 0)
    (λ e. rw (e, eqb-true n 0 e) (omega arith, refl, refl))
    (λ e. let some : n ≡ 0 → ⊥ = eqb-false n 0 e in
    let r = digits-read n n (omega arith) in
    rw e (some-digits (digits_up_to n n) (omega (arith, r.1)), r.0, r.1))
