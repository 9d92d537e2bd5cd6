-- When entries aren't bad (`specs/Bad.antt`).
use Prim.Native.Nat.{ℕ, zero, suc, ◌+◌, ◌-◌, ◌<◌}
use native.Mathlib.Nat.{le_of_suc-le-suc}
use native.Mathlib.Omega.{arith}
use mathlib.Core.Bool.{true, false}
use mathlib.Core.List.{List, [], ◌∷◌}
use mathlib.Core.Logic.{◌≢◌}
use mathlib.Core.Path.{◌≡◌, refl, sym}
use lib.Dec.{leb, eqb}
use lib.ListN.{length, take, drop, length-take, length-drop}
use lib.Seq.{get_or-take, get_or-drop}
use borrow.Author.Tests.{leb-true, le-leb, eqb-true, eqb-false, eq-eqb, ne_eqb, not-true}
use Rattle.octets.proofs.Tests.{both_hold, holds-both}
use Rattle.filter_entries.specs.Entries.{unused, is_on, all_allowed, all_unused, are_good}
use Rattle.filter_entries.specs.Bad.{address_at, NotBad, BadEntries}
use Rattle.filter_entries.proofs.Lists.{neither, first-allowed}

-- ---- an address that is not on a list

off-each : (l : List ℕ) (a : ℕ) → is_on l a ≡ false → (i : ℕ) → i < length l → address_at l i ≢ a
off-each [] a e i h = absurd (omega arith)
off-each (x ∷ l) a e zero h = eqb-false x a (neither (eqb x a) (is_on l a) e).0
off-each (x ∷ l) a e (suc i) h = off-each l a (neither (eqb x a) (is_on l a) e).1 i (le_of_suc-le-suc h)

each-off : (l : List ℕ) (a : ℕ) → ((i : ℕ) → i < length l → address_at l i ≢ a) → is_on l a ≡ false
each-off [] a h = refl
each-off (x ∷ l) a h = rw (ne_eqb x a (h 0 (omega arith))) (each-off l a (λ i b. h (suc i) (omega arith)))

-- ---- no repeat and no 0x0000

allowed-nonzero : (l : List ℕ) → all_allowed l ≡ true → (i : ℕ) → i < length l → address_at l i ≢ 0
allowed-nonzero [] e i h = absurd (omega arith)
allowed-nonzero (x ∷ l) e zero h = eqb-false x 0 (not-true (eqb x 0) (first-allowed x l e).0)
allowed-nonzero (x ∷ l) e (suc i) h = allowed-nonzero l (first-allowed x l e).1.1 i (le_of_suc-le-suc h)

allowed-different : (l : List ℕ) → all_allowed l ≡ true → (i j : ℕ) → i < j → j < length l → address_at l i ≢ address_at l j
allowed-different [] e i j b h = absurd (omega arith)
allowed-different (x ∷ l) e i zero b h = absurd (omega arith)
allowed-different (x ∷ l) e zero (suc j) b h = λ q. off-each l x (first-allowed x l e).1.0 j (le_of_suc-le-suc h) (sym q)
allowed-different (x ∷ l) e (suc i) (suc j) b h = allowed-different l (first-allowed x l e).1.1 i j (le_of_suc-le-suc b) (le_of_suc-le-suc h)

all-allowed : (l : List ℕ) → ((i : ℕ) → i < length l → address_at l i ≢ 0) → ((i j : ℕ) → i < j → j < length l → address_at l i ≢ address_at l j)
    → all_allowed l ≡ true
all-allowed [] z d = refl
all-allowed (x ∷ l) z d =
    rw (ne_eqb x 0 (z 0 (omega arith)), each-off l x (λ j b q. d 0 (suc j) (omega arith) (omega arith) (sym q)))
    (all-allowed l (λ i b. z (suc i) (omega arith)) (λ i j b h. d (suc i) (suc j) (omega arith) (omega arith)))

-- ---- 0 everywhere

unused-each : (l : List ℕ) → all_unused l ≡ true → (i : ℕ) → i < length l → address_at l i ≡ 0
unused-each [] e i h = absurd (omega arith)
unused-each (x ∷ l) e zero h = eqb-true x 0 (both_hold {a = eqb x 0} e).0
unused-each (x ∷ l) e (suc i) h = unused-each l (both_hold {a = eqb x 0} e).1 i (le_of_suc-le-suc h)

all-unused : (l : List ℕ) → ((i : ℕ) → i < length l → address_at l i ≡ 0) → all_unused l ≡ true
all-unused [] h = refl
all-unused (x ∷ l) h = holds-both (eq-eqb x 0 (h 0 (omega arith))) (all-unused l (λ i b. h (suc i) (omega arith)))

-- ---- the entries held, and those past them

module _ (n : ℕ) (l : List ℕ) where
  held_at : (i : ℕ) → i < n → address_at (take n l) i ≡ address_at l i
  held_at i h = get_or-take n l i unused h

  past-at : (i : ℕ) → address_at (drop n l) i ≡ address_at l (n + i)
  past-at i = get_or-drop n l i unused

  not-bad : are_good n l ≡ true → NotBad n l
  not-bad e =
      let p = both_hold {a = leb n 16} e in
      let q = both_hold {a = all_allowed (take n l)} p.1 in
      record {
        few = leb-true n 16 p.0;
        different = λ i j b h k. rw (held_at i (omega arith), held_at j h) at (allowed-different (take n l) q.0 i j b (omega (arith, length-take n l)));
        nonzero = λ i h k. rw (held_at i h) at (allowed-nonzero (take n l) q.0 i (omega (arith, length-take n l)));
        past = λ i h k. let r : n + (i - n) ≡ i = omega arith in rw (past-at (i - n), r) at (unused-each (drop n l) q.1 (i - n) (omega (arith, length-drop n l)));
      }

  are-good : NotBad n l → are_good n l ≡ true
  are-good b =
      holds-both (le-leb n 16 b.few)
      (holds-both
      (all-allowed (take n l)
      (λ i h. let k : (i < n) × (i < length l) = (omega (arith, length-take n l), omega (arith, length-take n l)) in rw (held_at i k.0) (b.nonzero i k.0 k.1))
      (λ i j h m. let k : (j < n) × (j < length l) = (omega (arith, length-take n l), omega (arith, length-take n l)) in
      rw (held_at i (omega arith), held_at j k.0) (b.different i j h k.0 k.1)))
      (all-unused (drop n l) (λ i h. rw (past-at i) (b.past (n + i) (omega arith) (omega (arith, length-drop n l))))))

pub bad-entries : BadEntries
bad-entries n l = (not-bad n l, are-good n l)
