-- The lookup, by the library's `position`, and what it finds.
use Prim.Native.Nat.{ℕ, suc, ◌+◌, ◌<◌}
use native.Mathlib.Nat.{add-zero}
use native.Mathlib.Omega.{arith}
use mathlib.Core.Bool.{Bool, true, false, not}
use mathlib.Core.List.{List, [], ◌∷◌, ◌++◌}
use mathlib.Core.Path.{◌≡◌, refl, sym, ap, subst, ◌∙◌}
use lib.Dec.{eqb}
use lib.ListN.{length, length-append}
use borrow.Author.Tests.{eqb-true}
use Rattle.std.specs.Prelude.{Option, Some, None, is_some, option_map, position}
use Rattle.std.specs.List.{position_from}
use Rattle.std.proofs.lemmas.Iterator.Adapters.{position_from-zero}
use Rattle.octets.proofs.Tests.{cases}
use Rattle.filter_entries.specs.Entries.{is_on, find_from}

-- THE LOOKUP IS `position`, which counts from 0
from-place : (k i : ℕ) (l : List ℕ) (a : ℕ) → find_from (k + i) l a ≡ option_map (λ (p : ℕ). k + p) (position_from (λ (x : ℕ). eqb x a) i l)
unfolding find_from
from-place k i [] a = refl
from-place k i (e ∷ l) a =
    let w : suc (k + i) ≡ k + (i + 1) = omega arith in
    cases (eqb e a)
    (λ g. rw g)
    (λ g. rw (g, w) (from-place k (i + 1) l a))

pub by-position : (k : ℕ) (l : List ℕ) (a : ℕ) → find_from k l a ≡ option_map (λ (p : ℕ). k + p) (position (λ (x : ℕ). eqb x a) l)
by-position k l a =
    sym (ap (λ (n : ℕ). find_from n l a) (add-zero k))
    ∙ from-place k 0 l a ∙ ap (option_map (λ (p : ℕ). k + p)) (sym (position_from-zero (λ (x : ℕ). eqb x a) l))

-- what a lookup from place k on finds: the first entry with the address, or that there is none
pub data Found (l : List ℕ) (a k : ℕ) : Option ℕ → Type 0 where
  there : (before : List ℕ) (e : ℕ) (after : List ℕ) → l ≡ before ++ e ∷ after → is_on before a ≡ false → e ≡ a
      → Found l a k (Some (k + length before))
  absent : is_on l a ≡ false → Found l a k None

one_more : (e : ℕ) (l : List ℕ) (a k : ℕ) (p : Option ℕ) → eqb e a ≡ false → Found l a (suc k) p → Found (e ∷ l) a k p
one_more e l a k p g (there before x after s n q) =
    let w : k + length (e ∷ before) ≡ suc k + length before = omega arith in
    subst (λ (n : ℕ). Found (e ∷ l) a k (Some n)) w (there (e ∷ before) x after (ap (λ (t : List ℕ). e ∷ t) s) (rw g n) q)
one_more e l a k p g (absent n) = absent (rw g n)

pub found : (l : List ℕ) (a k : ℕ) → Found l a k (find_from k l a)
unfolding find_from
found [] a k = absent refl
found (e ∷ l) a k =
    cases (eqb e a)
    (λ g. rw g (subst (λ (n : ℕ). Found (e ∷ l) a k (Some n)) (add-zero k) (there [] e l refl refl (eqb-true e a g))))
    (λ g. rw g (one_more e l a k _ g (found l a (suc k))))

-- an address is on a list exactly if the lookup finds it
pub on-found : (l : List ℕ) (a k : ℕ) → is_on l a ≡ is_some (find_from k l a)
unfolding find_from
on-found [] a k = refl
on-found (e ∷ l) a k = cases (eqb e a) (λ g. rw g) (λ g. rw g (on-found l a (suc k)))

pub off-by-none : (l : List ℕ) (a k : ℕ) (none : Bool) → is_some (find_from k l a) ≡ not none → none ≡ not (is_on l a)
off-by-none l a k true h = rw (on-found l a k, h) refl
off-by-none l a k false h = rw (on-found l a k, h) refl

below : (l : List ℕ) (a k : ℕ) (q : Option ℕ) → Found l a k q → (p : ℕ) → q ≡ Some p → p < k + length l
below l a k q (there x e y s n h) p g =
    let w : k + length x ≡ p = cc in
    omega (arith, w, ap length s, length-append x (e ∷ y))
below l a k q (absent n) p g = let z : ◌≡◌ {A = ℕ} 0 1 = cc in absurd (omega arith)

-- the place found is one of the list's
pub found_below : (l : List ℕ) (a p : ℕ) → find_from 0 l a ≡ Some p → p < length l
found_below l a p g = omega (arith, below l a 0 (find_from 0 l a) (found l a 0) p g)
