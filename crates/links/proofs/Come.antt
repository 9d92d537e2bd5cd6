-- What has come, as tests: segments among those at or after the first Start.
use Prim.Native.Nat.{ℕ, zero, suc, ◌≤◌}
use native.Mathlib.Omega.{arith}
use mathlib.Core.Bool.{Bool, true, false, ◌&&◌, cond, false≢true}
use mathlib.Core.List.{List, [], ◌∷◌, ◌++◌, append_assoc, append-nil, Memᴰ}
use mathlib.Core.Logic.{◌≢◌}
use mathlib.Core.Path.{◌≡◌, refl, sym, ap, ◌∙◌}
use lib.Dec.{eqb}
use borrow.Author.Tests.{eqb-true, eqb-false, eq-eqb}
use Rattle.octets.proofs.Tests.{both, both_hold, holds-both}
use Rattle.links.specs.Marks.{is_marked, all_marked}

-- ---- segments by their numbers, in the order in which they come

-- those at or after the first Start segment
abbrev pub since_start : List ℕ → List ℕ
since_start [] = []
since_start (zero ∷ ks) = zero ∷ ks
since_start (suc k ∷ ks) = since_start ks

-- each of segments 0 to n is among them
abbrev pub Each : ℕ → List ℕ → Type 0
Each n l = (k : ℕ) → k ≤ n → Memᴰ k l

-- segment j is among them
abbrev pub has : ℕ → List ℕ → Bool
has j [] = false
has j (k ∷ ks) = cond (eqb k j) true (has j ks)

-- each of segments 0 to n is
abbrev pub complete : ℕ → List ℕ → Bool
complete zero l = has 0 l
complete (suc n) l = has (suc n) l && complete n l

-- one more
abbrev pub push : List ℕ → ℕ → List ℕ
push [] zero = zero ∷ []
push [] (suc k) = []
push (j ∷ l) k = j ∷ (l ++ (k ∷ []))

pub since-start-snoc : (pre : List ℕ) (k : ℕ) → since_start (pre ++ (k ∷ [])) ≡ push (since_start pre) k
since-start-snoc [] zero = refl
since-start-snoc [] (suc k) = refl
since-start-snoc (zero ∷ pre) k = refl
since-start-snoc (suc j ∷ pre) k = since-start-snoc pre k

pub has-snoc : (j : ℕ) (l : List ℕ) (k : ℕ) → has j (l ++ (k ∷ [])) ≡ cond (eqb k j) true (has j l)
has-snoc j [] k = refl
has-snoc j (i ∷ l) k =
    both (λ t. cond t true (has j (l ++ (k ∷ []))) ≡ cond (eqb k j) true (cond t true (has j l))) (eqb i j)
    (λ e. both (λ t. true ≡ cond t true true) (eqb k j) (λ _. refl) (λ _. refl))
    (λ e. has-snoc j l k)

pub complete-nil : (n : ℕ) → complete n [] ≡ false
complete-nil zero = refl
complete-nil (suc n) = refl

has-mono : (j : ℕ) (l : List ℕ) (k : ℕ) → has j l ≡ true → has j (push l k) ≡ true
has-mono j [] k h = absurd (false≢true h)
has-mono j (i ∷ l) k h = has-snoc j (i ∷ l) k ∙ rw h (both (λ t. cond t true true ≡ true) (eqb k j) (λ _. refl) (λ _. refl))

pub complete-mono : (n : ℕ) (l : List ℕ) (k : ℕ) → complete n l ≡ true → complete n (push l k) ≡ true
complete-mono zero l k h = has-mono 0 l k h
complete-mono (suc n) l k h =
    let p = both_hold {a = has (suc n) l} {b = complete n l} h in
    rw (has-mono (suc n) l k p.0) (complete-mono n l k p.1)

pub has-of-complete : (n : ℕ) (l : List ℕ) → complete n l ≡ true → (j : ℕ) → j ≤ n → has j l ≡ true
has-of-complete zero l h j b = let e : j ≡ 0 = omega arith in rw e h
has-of-complete (suc n) l h j b =
    let p = both_hold {a = has (suc n) l} {b = complete n l} h in
    both (λ _. has j l ≡ true) (eqb (suc n) j)
    (λ e. rw (eqb-true (suc n) j e) at p.0)
    (λ e. let q : suc n ≢ j = eqb-false (suc n) j e in has-of-complete n l p.1 j (omega arith))

-- marks that are those of what has come
pub all-complete : (n w : ℕ) (l : List ℕ) → ((j : ℕ) → j ≤ n → is_marked w j ≡ has j l) → all_marked n w ≡ complete n l
all-complete zero w l h = h 0 (omega arith)
all-complete (suc n) w l h = rw (h (suc n) (omega arith), all-complete n w l (λ j b. h j (omega arith)))

pub complete-cong : (n : ℕ) (l l' : List ℕ) → ((j : ℕ) → has j l ≡ has j l') → complete n l ≡ complete n l'
complete-cong zero l l' h = h 0
complete-cong (suc n) l l' h = rw (h (suc n), complete-cong n l l' h)

-- a segment that has come changes nothing
pub has-again : (k : ℕ) (l : List ℕ) → has k l ≡ true → (j : ℕ) → has j (l ++ (k ∷ [])) ≡ has j l
has-again k l h j =
    has-snoc j l k
    ∙ both (λ c. cond c true (has j l) ≡ has j l) (eqb k j) (λ e. sym h ∙ ap (λ (i : ℕ). has i l) (eqb-true k j e)) (λ e. refl)

-- ---- tests and statements

pub has-mem : (j : ℕ) (l : List ℕ) → has j l ≡ true → Memᴰ j l
has-mem j [] h = absurd (false≢true h)
has-mem j (k ∷ l) h =
    both (λ t. eqb k j ≡ t → cond t true (has j l) ≡ true → Memᴰ j (k ∷ l)) (eqb k j)
    (λ _ e _. Memᴰ.head (sym (eqb-true k j e))) (λ _ _ r. Memᴰ.tail (has-mem j l r)) refl h

pub mem-has : (j : ℕ) (l : List ℕ) → Memᴰ j l → has j l ≡ true
mem-has j [] x' = elim x' [ ]
mem-has j (k ∷ l) (Memᴰ.head e) = rw (eq-eqb k j (sym e))
mem-has j (k ∷ l) (Memᴰ.tail m) = both (λ t. cond t true (has j l) ≡ true) (eqb k j) (λ _. refl) (λ _. mem-has j l m)

pub each-complete : (n : ℕ) (l : List ℕ) → Each n l → complete n l ≡ true
each-complete zero l h = mem-has 0 l (h 0 (omega arith))
each-complete (suc n) l h = holds-both (mem-has (suc n) l (h (suc n) (omega arith))) (each-complete n l (λ k b. h k (omega arith)))

pub complete-each : (n : ℕ) (l : List ℕ) → complete n l ≡ true → Each n l
complete-each n l e k b = has-mem k l (has-of-complete n l e k b)

pub complete-later : (n : ℕ) (a b : List ℕ) → complete n (since_start a) ≡ true → complete n (since_start (a ++ b)) ≡ true
complete-later n a [] h = rw (append-nil a) h
complete-later n a (k ∷ b) h = rw (← (append_assoc a (k ∷ []) b)) (complete-later n (a ++ (k ∷ [])) b (rw (since-start-snoc a k) (complete-mono n (since_start a) k h)))

pub push-has : (k : ℕ) (l : List ℕ) → has k l ≡ true → push l k ≡ l ++ (k ∷ [])
push-has k [] h = absurd (false≢true h)
push-has k (j ∷ l) h = refl
