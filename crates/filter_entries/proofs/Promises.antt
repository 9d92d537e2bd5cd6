-- One address added or removed (`specs/Promises.antt`).
use Prim.Native.Nat.{ℕ, suc, ◌+◌, ◌<◌, ◌≤◌}
use native.Mathlib.Nat.{add-zero}
use native.Mathlib.Omega.{arith}
use mathlib.Core.Bool.{true, false}
use mathlib.Core.List.{List, [], ◌∷◌, ◌++◌}
use mathlib.Core.Path.{◌≡◌, refl, sym, ap, ◌∙◌}
use lib.Dec.{eqb}
use lib.ListN.{length}
use borrow.Author.Tests.{le-leb, lt-leb, eq-eqb, ne_eqb}
use Rattle.std.specs.Prelude.{Option, Some, None, is_some}
use Rattle.octets.proofs.Tests.{cases}
use Rattle.filter_messages.specs.declared.Change.TheVariants.{Add, Remove}
use Rattle.filter_entries.specs.Entries.{is_on, find, find_from}
use Rattle.filter_entries.specs.Changes.{changed, changed_at}
use Rattle.filter_entries.specs.Promises.{AllOneByOne, AllAdded, AllRemoved}
use Rattle.filter_entries.proofs.Lookup.{on-found}
use Rattle.filter_entries.proofs.Lists.{neither, without-found}

-- ---- adding, by the place found

add_at : (p : Option ℕ) (l : List ℕ) (a : ℕ) → is_some p ≡ true → changed_at Add p l a ≡ l
add_at (Some p) l a h = refl
add_at None l a h = let z : ◌≡◌ {A = ℕ} 0 1 = cc in absurd (omega arith)

add-full-at : (p : Option ℕ) (l : List ℕ) (a : ℕ) → 16 ≤ length l → changed_at Add p l a ≡ l
add-full-at (Some p) l a h = refl
add-full-at None l a h = rw (le-leb 16 (length l) h)

add-last-at : (p : Option ℕ) (l : List ℕ) (a : ℕ) → is_some p ≡ false → length l < 16 → changed_at Add p l a ≡ l ++ (a ∷ [])
add-last-at (Some p) l a n h = let z : ◌≡◌ {A = ℕ} 0 1 = cc in absurd (omega arith)
add-last-at None l a n h = rw (lt-leb 16 (length l) h)

pub all-added : AllAdded
unfolding changed
all-added l a = record {
  last = λ z n h. rw (ne_eqb a 0 z) (add-last-at (find l a) l a (sym (on-found l a 0) ∙ n) h);
  zero = λ z. rw (eq-eqb a 0 z);
  there = λ h. cases (eqb a 0) (λ z. rw z) (λ z. rw z (add_at (find l a) l a (sym (on-found l a 0) ∙ h)));
  full = λ h. cases (eqb a 0) (λ z. rw z) (λ z. rw z (add-full-at (find l a) l a h));
}

-- ---- removing

-- the first place that has an address is the one found
first_found : (before : List ℕ) (e : ℕ) (after : List ℕ) (a k : ℕ) → is_on before a ≡ false → e ≡ a
    → find_from k (before ++ e ∷ after) a ≡ Some (k + length before)
unfolding find_from
first_found [] e after a k n q = rw (eq-eqb e a q, add-zero k)
first_found (o ∷ before) e after a k n q =
    let b = neither (eqb o a) (is_on before a) n in
    let w : suc k + length before ≡ k + suc (length before) = omega arith in
    rw b.0 (first_found before e after a (suc k) b.1 q ∙ ap Some w)

remove-at : (p : Option ℕ) (l : List ℕ) (a : ℕ) → is_some p ≡ false → changed_at Remove p l a ≡ l
remove-at (Some p) l a h = let z : ◌≡◌ {A = ℕ} 0 1 = cc in absurd (omega arith)
remove-at None l a h = refl

pub all-removed : AllRemoved
unfolding changed
all-removed l a = record {
  around = λ before e after s n q z.
      let place : find l a ≡ Some (0 + length before) = rw s (first_found before e after a 0 n q) in
      rw (ne_eqb a 0 z, place) (without-found l before e after s);
  zero = λ z. rw (eq-eqb a 0 z);
  absent = λ n. cases (eqb a 0) (λ z. rw z) (λ z. rw z (remove-at (find l a) l a (sym (on-found l a 0) ∙ n)));
}

-- ---- each in turn

pub all-one-by-one : AllOneByOne
all-one-by-one c l = record { none = refl; first = λ a more. refl }
