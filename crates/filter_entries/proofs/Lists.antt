-- Lists with no repeat and no 0x0000 stay so.
use Prim.Native.Nat.{ℕ, suc, ◌+◌, ◌≤◌}
use native.Mathlib.Omega.{arith}
use mathlib.Core.Bool.{Bool, true, false, ◌&&◌, ◌||◌, not, and-eq-true_iff}
use mathlib.Core.List.{List, [], ◌∷◌, ◌++◌}
use mathlib.Core.Path.{◌≡◌, refl, sym, ap, ◌∙◌}
use lib.Dec.{leb, eqb}
use lib.ListN.{length, drop, length-append}
use lib.Seq.{take_at}
use borrow.Author.Tests.{eq-eqb, ne_eqb, eqb-true, eqb-false, leb-false, not-true}
use Rattle.std.specs.Prelude.{Option}
use Rattle.std.specs.List.{list_all}
use Rattle.octets.proofs.Tests.{cases}
use Rattle.filter_messages.specs.declared.Change.{Change}
use Rattle.filter_messages.specs.declared.Change.TheVariants.{Add, Remove}
use Rattle.filter_entries.specs.Entries.{is_on, find, all_allowed, all_unused}
use Rattle.filter_entries.specs.Changes.{without, changed, changed_at, changed_all, all_but}
use Rattle.filter_entries.proofs.Lookup.{Found, there, absent, found}

-- ---- membership

pub neither : (a b : Bool) → (a || b) ≡ false → (a ≡ false) × (b ≡ false)
neither false b e = (refl, e)
neither true b e = let z : ◌≡◌ {A = ℕ} 0 1 = cc in absurd (omega arith)

-- an address that is on neither of two lists, and on their join
off-join : (x y : List ℕ) (a : ℕ) → is_on x a ≡ false → is_on y a ≡ false → is_on (x ++ y) a ≡ false
off-join [] y a p q = q
off-join (e ∷ x) y a p q = let b = neither (eqb e a) (is_on x a) p in rw b.0 (off-join x y a b.1 q)

off-both : (x y : List ℕ) (a : ℕ) → is_on (x ++ y) a ≡ false → (is_on x a ≡ false) × (is_on y a ≡ false)
off-both [] y a p = (refl, p)
off-both (e ∷ x) y a p = let b = neither (eqb e a) (is_on (x ++ y) a) p in rw b.0 (off-both x y a b.1)

-- ---- no repeat and no 0x0000

-- what is said of the first of a list
pub first-allowed : (e : ℕ) (l : List ℕ) → all_allowed (e ∷ l) ≡ true
    → (not (eqb e 0) ≡ true) × ((is_on l e ≡ false) × (all_allowed l ≡ true))
first-allowed e l h =
    let b = (and-eq-true_iff (not (eqb e 0) && not (is_on l e)) (all_allowed l)).0 h in
    let d = (and-eq-true_iff (not (eqb e 0)) (not (is_on l e))).0 b.0 in
    (d.0, (not-true (is_on l e) d.1, b.1))

allowed-after : (l : List ℕ) (a : ℕ) → all_allowed l ≡ true → eqb a 0 ≡ false → is_on l a ≡ false → all_allowed (l ++ (a ∷ [])) ≡ true
allowed-after [] a h z n = rw z
allowed-after (e ∷ l) a h z n =
    let b = first-allowed e l h in
    let o = neither (eqb e a) (is_on l a) n in
    let d : eqb a e ≡ false = ne_eqb a e (λ q. eqb-false e a o.0 (sym q)) in
    rw (b.0, off-join l (a ∷ []) e b.1.0 (rw d)) (allowed-after l a b.1.1 z o.1)

allowed-without : (x : List ℕ) (e : ℕ) (y : List ℕ) → all_allowed (x ++ e ∷ y) ≡ true → all_allowed (x ++ y) ≡ true
allowed-without [] e y h = (first-allowed e y h).1.1
allowed-without (o ∷ x) e y h =
    let b = first-allowed o (x ++ e ∷ y) h in
    let n = off-both x (e ∷ y) o b.1.0 in
    rw (b.0, off-join x y o n.0 (neither (eqb e o) (is_on y o) n.1).1) (allowed-without x e y b.1.1)

-- ---- one address changed

-- a list that a filter may hold
pub record Fine (l : List ℕ) : Type 0 where
  pub few : length l ≤ 16
  pub allowed : all_allowed l ≡ true

past_first : (x : List ℕ) (e : ℕ) (y : List ℕ) → drop (suc (length x)) (x ++ e ∷ y) ≡ y
past_first [] e y = refl
past_first (o ∷ x) e y = past_first x e y

-- the place at which an entry was found, taken out
pub without-found : (l x : List ℕ) (e : ℕ) (y : List ℕ) → l ≡ x ++ e ∷ y → without l (0 + length x) ≡ x ++ y
without-found l x e y s =
    let n : 0 + length x ≡ length x = omega arith in
    rw (n, s, take_at x (e ∷ y) (length x) refl) (ap (λ (t : List ℕ). x ++ t) (past_first x e y))

fine-without : (l : List ℕ) (a : ℕ) (p : Option ℕ) → Found l a 0 p → Fine l → Fine (changed_at Remove p l a)
fine-without l a p (absent n) h = h
fine-without l a p (there x e y s n q) h =
    let w = without-found l x e y s in
    record { few = omega (arith, ap length w, length-append x y, ap length s, length-append x (e ∷ y), h.few); allowed = rw w (allowed-without x e y (rw (sym s) h.allowed)) }

fine-after : (l : List ℕ) (a : ℕ) (p : Option ℕ) → eqb a 0 ≡ false → Found l a 0 p → Fine l → Fine (changed_at Add p l a)
fine-after l a p z (there x e y s n q) h = h
fine-after l a p z (absent n) h =
    cases (leb 16 (length l))
    (λ g. rw g h)
    (λ g. let b = leb-false 16 (length l) g in
    rw g (record { few = omega (arith, length-append l (a ∷ []), h.few); allowed = allowed-after l a h.allowed z n }))

fine-at : (c : Change) (l : List ℕ) (a : ℕ) → eqb a 0 ≡ false → Fine l → Fine (changed_at c (find l a) l a)
fine-at Add l a z h = fine-after l a (find l a) z (found l a 0) h
fine-at Remove l a z h = fine-without l a (find l a) (found l a 0) h

pub fine-changed : (c : Change) (l : List ℕ) (a : ℕ) → Fine l → Fine (changed c l a)
unfolding changed
fine-changed c l a h = cases (eqb a 0) (λ z. rw z h) (λ z. rw z (fine-at c l a z h))

pub fine-all : (c : Change) (l : List ℕ) (more : List ℕ) → Fine l → Fine (changed_all c l more)
fine-all c l [] h = h
fine-all c l (a ∷ more) h = fine-all c (changed c l a) more (fine-changed c l a h)

-- ---- the list after an address is added or removed

-- 0x0000 is never on the list
off_zero : (l : List ℕ) → all_allowed l ≡ true → is_on l 0 ≡ false
off_zero [] h = refl
off_zero (e ∷ l) h = let b = first-allowed e l h in rw (not-true (eqb e 0) b.0) (off_zero l b.1.1)

pub on-after : (l : List ℕ) (a : ℕ) → is_on (l ++ (a ∷ [])) a ≡ true
on-after [] a = rw (eq-eqb a a refl)
on-after (e ∷ l) a = cases (eqb e a) (λ g. rw g) (λ g. rw g (on-after l a))

allowed-behind : (x y : List ℕ) → all_allowed (x ++ y) ≡ true → all_allowed y ≡ true
allowed-behind [] y h = h
allowed-behind (e ∷ x) y h = allowed-behind x y (first-allowed e (x ++ y) h).1.1

-- an entry of the list is on neither side of itself
off-behind : (x : List ℕ) (e : ℕ) (y : List ℕ) → all_allowed (x ++ e ∷ y) ≡ true → is_on y e ≡ false
off-behind x e y h = (first-allowed e y (allowed-behind x (e ∷ y) h)).1.0

off-before : (x : List ℕ) (e : ℕ) (y : List ℕ) → all_allowed (x ++ e ∷ y) ≡ true → is_on x e ≡ false
off-before [] e y h = refl
off-before (o ∷ x) e y h =
    let b = first-allowed o (x ++ e ∷ y) h in
    let n = neither (eqb e o) (is_on y o) (off-both x (e ∷ y) o b.1.0).1 in
    rw (ne_eqb o e (λ q. eqb-false e o n.0 (sym q))) (off-before x e y b.1.1)

all-but-off : (l : List ℕ) (a : ℕ) → is_on l a ≡ false → all_but a l ≡ l
all-but-off [] a h = refl
all-but-off (e ∷ l) a h = let b = neither (eqb e a) (is_on l a) h in rw b.0 (ap (λ (t : List ℕ). e ∷ t) (all-but-off l a b.1))

all-but-join : (x y : List ℕ) (a : ℕ) → all_but a (x ++ y) ≡ all_but a x ++ all_but a y
all-but-join [] y a = refl
all-but-join (e ∷ x) y a = cases (eqb e a) (λ g. rw g (all-but-join x y a)) (λ g. rw g (ap (λ (t : List ℕ). e ∷ t) (all-but-join x y a)))

-- all but an entry of the list
all-but-around : (x : List ℕ) (e : ℕ) (y : List ℕ) → all_allowed (x ++ e ∷ y) ≡ true → all_but e (x ++ e ∷ y) ≡ x ++ y
all-but-around x e y h =
    all-but-join x (e ∷ y) e
    ∙ rw (eq-eqb e e refl, all-but-off x e (off-before x e y h), all-but-off y e (off-behind x e y h))

left_at : (l : List ℕ) (a : ℕ) (p : Option ℕ) → Found l a 0 p → all_allowed l ≡ true → changed_at Remove p l a ≡ all_but a l
left_at l a p (absent n) h = sym (all-but-off l a n)
left_at l a p (there x e y s n q) h = without-found l x e y s ∙ rw (s, sym q) (sym (all-but-around x e y (rw (sym s) h)))

pub others-left : (l : List ℕ) (a : ℕ) → all_allowed l ≡ true → changed Remove l a ≡ all_but a l
unfolding changed
others-left l a h =
    cases (eqb a 0)
    (λ z. rw (z, eqb-true a 0 z) (sym (all-but-off l 0 (off_zero l h))))
    (λ z. rw z (left_at l a (find l a) (found l a 0) h))

off-all-but : (l : List ℕ) (a : ℕ) → is_on (all_but a l) a ≡ false
off-all-but [] a = refl
off-all-but (e ∷ l) a = cases (eqb e a) (λ g. rw g (off-all-but l a)) (λ g. rw (g, g) (off-all-but l a))

pub off-after : (l : List ℕ) (a : ℕ) → all_allowed l ≡ true → is_on (changed Remove l a) a ≡ false
off-after l a h = rw (others-left l a h) (off-all-but l a)

-- 0 everywhere, by the library's `all`
pub unused_by_all : (l : List ℕ) → all_unused l ≡ list_all (λ (x : ℕ). eqb x 0) l
unused_by_all [] = refl
unused_by_all (e ∷ l) = ap (λ (b : Bool). eqb e 0 && b) (unused_by_all l)
