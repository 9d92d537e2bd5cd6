-- Turns of a loop over a list, whatever its elements are.
use Prim.Native.Nat.{ℕ, ◌+◌, ◌<◌, ◌≤◌}
use native.Mathlib.Numerals.{add-one}
use mathlib.Core.Bool.{Bool, true, false, ◌&&◌}
use mathlib.Core.List.{List, [], ◌∷◌}
use mathlib.Core.Path.{◌≡◌}
use lib.ListN.{length, drop, get_or, drop_of_length-le}
use lib.Seq.{drop-cons}

-- what is left of a list, from its next element on
pub left_here : {A : Type 0} (l : List A) (i : ℕ) (d : A) → i < length l → drop i l ≡ get_or l i d ∷ drop (i + 1) l
left_here l i d h = rw (add-one, drop-cons l i d)

-- A loop that stops at the first element that fails. F is what is asked of the list, q what is asked of an element and those after it,
-- t the answer for the element here, and r the answer for the list.
module _ {A : Type 0} (F : List A → Bool) (q : A → List A → Bool) (one : (x : A) (xs : List A) → F (x ∷ xs) ≡ (q x xs && F xs))
    (l : List A) (i : ℕ) (d : A) {t r : Bool} (inv : F (drop i l) ≡ r) (h : i < length l) (e : t ≡ q (get_or l i d) (drop (i + 1) l)) where
  here : F (drop i l) ≡ (t && F (drop (i + 1) l))
  here = rw (left_here l i d h, e) (one (get_or l i d) (drop (i + 1) l))

  pub goes_on : t ≡ true → F (drop (i + 1) l) ≡ r
  goes_on g = cc here

  pub stops : t ≡ false → false ≡ r
  stops g = cc here

-- the end of such a loop
pub nothing_left : {A B : Type 0} (F : List A → B) (l : List A) (i : ℕ) {r : B} → F (drop i l) ≡ r → length l ≤ i → F [] ≡ r
nothing_left F l i inv h = rw (drop_of_length-le l) at inv
