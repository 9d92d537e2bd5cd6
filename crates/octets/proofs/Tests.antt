-- The laws that turn what a branch showed into the value of the test that a definition names, and a split on a test.
use Prim.Native.Nat.{ℕ, ◌≤◌}
use mathlib.Core.Bool.{Bool, true, false, ◌&&◌, ◌||◌, not, and-eq-true_iff}
use mathlib.Core.Path.{◌≡◌, refl}
use lib.Dec.{leb, ltb}
use borrow.Author.Tests.{le-leb, lt-leb, lt-ltb, le-ltb, eq-eqb, ne_eqb, leb-true, leb-false}
use Rattle.octets.specs.Lengths.{is_length}

pub ruleset tests = (le-leb, lt-leb, le-ltb, eq-eqb, ne_eqb)

-- a proof by cases on a test
pub cases : {A : Type 0} (t : Bool) → (t ≡ true → A) → (t ≡ false → A) → A
cases true h k = h refl
cases false h k = k refl

-- the same of a statement about the test
pub both : (P : Bool → Type 0) (t : Bool) → (t ≡ true → P true) → (t ≡ false → P false) → P t
both P true h k = h refl
both P false h k = k refl

-- both parts of a test that holds
pub both_hold : {a b : Bool} → (a && b) ≡ true → (a ≡ true) × (b ≡ true)
both_hold {a} {b} e = (and-eq-true_iff a b).0 e

-- a test of two parts that hold
pub holds-both : {a b : Bool} → a ≡ true → b ≡ true → (a && b) ≡ true
holds-both {a} {b} p q = rw (p, q)

-- how many octets a message has
pub length-out : (n : ℕ) → is_length n ≡ true → (1 ≤ n) × (n ≤ 1469)
length-out n e = let p = both_hold e in (leb-true 1 n p.0, leb-true n 1469 p.1)

-- ---- denials

pub lt_not_le : (a b : ℕ) → ltb a b ≡ not (leb b a)
lt_not_le a b = cases (leb b a) (λ e. rw e (le-ltb a b (leb-true b a e))) (λ e. rw e (lt-ltb a b (leb-false b a e)))

pub not-both : (a b : Bool) → not (a && b) ≡ (not a || not b)
not-both true b = refl
not-both false b = refl
