-- Marks in a number, as shifts and masks say them.
use Prim.Native.Nat.{ℕ, zero, suc, ◌+◌, ◌-◌, ◌*◌, ◌/◌, ◌%◌, ◌^◌, ◌<◌, ◌≤◌}
use native.Mathlib.Nat.{div-eq_of_lt, one-mul, mod-eq_of_lt, mod-lt, two-pow-succ}
use native.Mathlib.Omega.{arith}
use mathlib.Core.Bool.{false, ◌&&◌}
use mathlib.Core.Path.{◌≡◌, sym, ap, ◌∙◌}
use lib.Dec.{eqb}
use lib.Pow.{pow_pos, pow-lt, pow_mono, mod-pow-add}
use borrow.Author.Tests.{eqb-true, eqb-false, eq-eqb, ne_eqb}
use Rattle.octets.proofs.Tests.{cases}
use Rattle.links.specs.Marks.{is_marked, all_marked}

-- a one that is shifted
pub one_shifted : (k : ℕ) → k < 64 → 1 * 2 ^ k % 2 ^ 64 ≡ 2 ^ k
one_shifted k h = rw (one-mul (2 ^ k)) (mod-eq_of_lt (pow-lt h))

-- nothing is left of a number of 64 bits that is shifted by 64 or more
pub shifted-out : (w k : ℕ) → w < 2 ^ 64 → 64 ≤ k → w / 2 ^ k ≡ 0
shifted-out w k b h = let p : 2 ^ 64 ≤ 2 ^ k = pow_mono h in div-eq_of_lt (omega arith)

-- so bit 64 and on are not set
pub past-marks : (w k : ℕ) → w < 2 ^ 64 → 64 ≤ k → is_marked w k ≡ false
unfolding is_marked
past-marks w k b h = rw (shifted-out w k b h)

pub not-all-marked : (n w : ℕ) → w < 2 ^ 64 → 63 < n → all_marked n w ≡ false
not-all-marked zero w b h = absurd (omega arith)
not-all-marked (suc n) w b h = rw (past-marks w (suc n) b h)

-- the bits up to bit k: it, and those below it
low_bits : (w k : ℕ) → w % 2 ^ suc k ≡ (w / 2 ^ k % 2) * 2 ^ k + w % 2 ^ k
low_bits w k = ap (λ (j : ℕ). w % 2 ^ j) (omega arith) ∙ mod-pow-add w 1 k

-- a highest bit b above q, which is below p: all are ones where b is one and q is all ones
top-ones : (b q p : ℕ) → b < 2 → q < p → (eqb b 1 && eqb q (p - 1)) ≡ eqb (b * p + q) (p + p - 1)
top-ones zero q p h k = sym (ne_eqb (zero * p + q) (p + p - 1) (λ e. omega arith))
top-ones (suc zero) q p h k =
    cases (eqb q (p - 1))
    (λ e. let o = eqb-true q (p - 1) e in rw e (sym (eq-eqb (1 * p + q) (p + p - 1) (omega arith))))
    (λ e. let o = eqb-false q (p - 1) e in rw e (sym (ne_eqb (1 * p + q) (p + p - 1) (λ g. o (omega arith)))))
top-ones (suc (suc b)) q p h k = absurd (omega arith)

-- EACH OF SEGMENTS 0 TO n IS IN where the n + 1 low bits are ones
pub all-marked-ones : (n w : ℕ) → all_marked n w ≡ eqb (w % 2 ^ suc n) (2 ^ suc n - 1)
unfolding is_marked
all-marked-ones zero w = let e : w / 1 ≡ w = omega arith in rw e
all-marked-ones (suc n) w =
    rw (all-marked-ones n w, low_bits w (suc n), two-pow-succ (suc n))
    (top-ones (w / 2 ^ suc n % 2) (w % 2 ^ suc n) (2 ^ suc n) (omega arith) (mod-lt w (pow_pos (suc n))))
