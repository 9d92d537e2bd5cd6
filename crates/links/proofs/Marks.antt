-- Laws of marks in a number.
use Prim.Native.Nat.{ℕ, zero, suc, ◌+◌, ◌*◌, ◌-◌, ◌/◌, ◌%◌, ◌^◌, ◌≤◌, ◌<◌, max}
use native.Mathlib.Nat.{div_self, div-eq_of_lt, div-eq_of_eq-mul_right, zero-div}
use native.Mathlib.Omega.{arith}
use mathlib.Core.Bool.{true, false}
use mathlib.Core.Logic.{◌≢◌}
use mathlib.Core.Path.{◌≡◌, ap, ◌∙◌}
use lib.Bits.{bit_or, or_shr, or_step}
use lib.Dec.{eqb, leb}
use lib.Pow.{pow_pos, pow-lt, pow-add}
use borrow.Author.Tests.{eqb-true, eqb-false, eq-eqb, leb-true, leb-false}
use Rattle.octets.proofs.Tests.{cases, both_hold}
use Rattle.links.specs.Marks.{is_marked, with_mark, all_marked, none_above}

own-bit : (k : ℕ) → 2 ^ k / 2 ^ k % 2 ≡ 1
own-bit k = rw (div_self (pow_pos k))

other-bit : (k j : ℕ) → k ≢ j → 2 ^ k / 2 ^ j % 2 ≡ 0
other-bit k j h =
    cases (leb j k)
    (λ e. let b : j ≤ k = leb-true j k e in
    let d = k - suc j in
    let q : k ≡ j + suc d = omega arith in
    let r : 2 ^ k ≡ 2 ^ j * 2 ^ suc d = ap (λ (i : ℕ). 2 ^ i) q ∙ pow-add 2 j (suc d) in
    rw (div-eq_of_eq-mul_right (pow_pos j) r) (even d))
    (λ e. rw (div-eq_of_lt (pow-lt (leb-false j k e))))
  where
    even : (d : ℕ) → 2 ^ suc d % 2 ≡ 0
    even d = omega arith

or-low : (a b : ℕ) → bit_or a b % 2 ≡ max (a % 2) (b % 2)
or-low a b = omega (arith, or_step a b)

-- the segment that is entered is in
pub marked-same : (w k : ℕ) → is_marked (with_mark w k) k ≡ true
unfolding is_marked with_mark
marked-same w k = rw (or_shr w (2 ^ k) k, or-low (w / 2 ^ k) (2 ^ k / 2 ^ k), own-bit k) (eq-eqb (max (w / 2 ^ k % 2) 1) 1 (omega arith))

-- and the others are as they were
pub marked_other : (w k j : ℕ) → k ≢ j → is_marked (with_mark w k) j ≡ is_marked w j
unfolding is_marked with_mark
marked_other w k j h =
    rw (or_shr w (2 ^ k) j, or-low (w / 2 ^ j) (2 ^ k / 2 ^ j), other-bit k j h)
    (let e : max (w / 2 ^ j % 2) 0 ≡ w / 2 ^ j % 2 = omega arith in rw e)

-- nothing is in of a message that has just begun
pub none-marked : (k : ℕ) → is_marked 0 k ≡ false
unfolding is_marked
none-marked k = rw (zero-div (2 ^ k))

pub none-above-zero : (n : ℕ) → none_above n 0 ≡ true
unfolding none_above
none-above-zero n = rw (zero-div (2 ^ suc n))

small : (n k : ℕ) → k ≤ n → 2 ^ k < 2 ^ suc n
small n k h = pow-lt (omega arith)

-- a segment up to n leaves none above n
pub none-above-mark : (n w k : ℕ) → k ≤ n → none_above n w ≡ true → none_above n (with_mark w k) ≡ true
unfolding none_above with_mark
none-above-mark n w k h e =
    rw (or_shr w (2 ^ k) (suc n), eqb-true (w / 2 ^ suc n) 0 e, div-eq_of_lt (small n k h))

-- each of the segments that are all in
pub all-marked-each : (n w : ℕ) → all_marked n w ≡ true → (j : ℕ) → j ≤ n → is_marked w j ≡ true
all-marked-each zero w h j b = let e : j ≡ 0 = omega arith in rw e h
all-marked-each (suc n) w h j b =
    let p = both_hold {a = is_marked w (suc n)} {b = all_marked n w} h in
    cases (eqb (suc n) j)
    (λ e. rw (eqb-true (suc n) j e) at p.0)
    (λ e. let q : suc n ≢ j = eqb-false (suc n) j e in all-marked-each n w p.1 j (omega arith))
