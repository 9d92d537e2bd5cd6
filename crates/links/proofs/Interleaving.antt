-- Interleaving, once for every machine of parts: calls in any mixture, or part after part.
use Prim.Native.Nat.{ℕ, zero, suc, ◌≤◌, ◌<◌}
use native.Mathlib.Omega.{arith}
use mathlib.Core.List.{List, [], ◌∷◌, ◌++◌, append-nil}
use mathlib.Core.Logic.{◌≢◌}
use mathlib.Core.Path.{◌≡◌, refl, sym, ap, subst, ◌∙◌}
use lib.Dec.{eqb}
use lib.Seq.{append_snoc}
use borrow.Author.Tests.{eqb-true, eqb-false, ne_eqb}
use Rattle.octets.proofs.Tests.{both}
use Rattle.links.specs.Interleaving.{keep_if, with_key, in_turn, All, state_after, BeforeEach, answers, key_of}

module _ {B : Type 0} where
  pub with-key-append : (key : B → ℕ) (s : ℕ) (a b : List B) → with_key key s (a ++ b) ≡ with_key key s a ++ with_key key s b
  with-key-append key s [] b = refl
  with-key-append key s (x ∷ a) b =
      both (λ t. keep_if t x (with_key key s (a ++ b)) ≡ keep_if t x (with_key key s a) ++ with_key key s b) (eqb (key x) s)
      (λ e. ap (λ (r : List B). x ∷ r) (with-key-append key s a b)) (λ e. with-key-append key s a b)

  pub with-key-twice : (key : B → ℕ) (s : ℕ) (l : List B) → with_key key s (with_key key s l) ≡ with_key key s l
  with-key-twice key s [] = refl
  with-key-twice key s (x ∷ l) =
      both (λ t. with_key key s (keep_if t x (with_key key s l)) ≡ keep_if t x (with_key key s l)) (eqb (key x) s)
      (λ e. rw e (ap (λ (r : List B). x ∷ r) (with-key-twice key s l))) (λ e. with-key-twice key s l)

  pub with-key-other : (key : B → ℕ) (s j : ℕ) → j ≢ s → (l : List B) → with_key key s (with_key key j l) ≡ []
  with-key-other key s j h [] = refl
  with-key-other key s j h (x ∷ l) =
      both (λ t. with_key key s (keep_if t x (with_key key j l)) ≡ []) (eqb (key x) j)
      (λ e. rw (ne_eqb (key x) s (λ q. h (sym (eqb-true (key x) j e) ∙ q))) (with-key-other key s j h l)) (λ e. with-key-other key s j h l)

  -- nothing for a socket at or above n
  pub in-turn-above : (key : B → ℕ) (n s : ℕ) → n ≤ s → (l : List B) → with_key key s (in_turn key n l) ≡ []
  in-turn-above key zero s h l = refl
  in-turn-above key (suc n) s h l =
      with-key-append key s (in_turn key n l) (with_key key n l)
      ∙ rw (in-turn-above key n s (omega arith) l, with-key-other key s n (omega arith) l)

  pub in-turn-key : (key : B → ℕ) (n s : ℕ) → s < n → (l : List B) → with_key key s (in_turn key n l) ≡ with_key key s l
  in-turn-key key zero s h l = absurd (omega arith)
  in-turn-key key (suc n) s h l =
      with-key-append key s (in_turn key n l) (with_key key n l)
      ∙ both (λ t. with_key key s (in_turn key n l) ++ with_key key s (with_key key n l) ≡ with_key key s l) (eqb n s)
      (λ e. let q : n ≡ s = eqb-true n s e in rw (in-turn-above key n s (omega arith) l, q) (with-key-twice key s l))
      (λ e. let q : n ≢ s = eqb-false n s e in rw (with-key-other key s n q l) (append-nil _ ∙ in-turn-key key n s (omega arith) l))

  all_append : (P : B → Type 0) (a b : List B) → All P a → All P b → All P (a ++ b)
  all_append P [] b ha hb = hb
  all_append P (x ∷ a) b ha hb = (ha.0, all_append P a b ha.1 hb)

  all-with-key : (P : B → Type 0) (key : B → ℕ) (s : ℕ) (l : List B) → All P l → All P (with_key key s l)
  all-with-key P key s [] h = tt
  all-with-key P key s (x ∷ l) h =
      both (λ t. All P (keep_if t x (with_key key s l))) (eqb (key x) s) (λ e. (h.0, all-with-key P key s l h.1)) (λ e. all-with-key P key s l h.1)

  pub all-in-turn : (P : B → Type 0) (key : B → ℕ) (n : ℕ) (l : List B) → All P l → All P (in_turn key n l)
  all-in-turn P key zero l h = tt
  all-in-turn P key (suc n) l h = all_append P (in_turn key n l) (with_key key n l) (all-in-turn P key n l h) (all-with-key P key n l h)

module _ {S K A : Type 0} (step : S → K → A × S) where
  pub after-append : (σ : S) (a b : List K) → state_after step σ (a ++ b) ≡ state_after step (state_after step σ a) b
  after-append σ [] b = refl
  after-append σ (k ∷ a) b = after-append (step σ k).1 a b

  before-snoc : (P : S → Type 0) (σ : S) (ks : List K) (k : K) → BeforeEach step P σ ks → P (state_after step σ ks) → BeforeEach step P σ (ks ++ (k ∷ []))
  before-snoc P σ [] k h p = (p, tt)
  before-snoc P σ (j ∷ ks) k h p = (h.0, before-snoc P (step σ j).1 ks k h.1 p)

  -- one call more behind a and k
  pub before-each-snoc : (P : S → Type 0) (σ : S) (a : List K) (k : K) (b : List K) (c : K) → BeforeEach step P (state_after step σ (a ++ (k ∷ []))) b
      → P (state_after step σ (a ++ (k ∷ b))) → BeforeEach step P (state_after step σ (a ++ (k ∷ []))) (b ++ (c ∷ []))
  before-each-snoc P σ a k b c h p =
      before-snoc P _ b c h (rw (← (after-append σ (a ++ (k ∷ [])) b), append_snoc a k b) p)

  pub answers-append : (σ : S) (a b : List K) → answers step σ (a ++ b) ≡ answers step σ a ++ answers step (state_after step σ a) b
  answers-append σ [] b = refl
  answers-append σ (k ∷ a) b = ap (λ (r : List (K × A)). (k, (step σ k).0) ∷ r) (answers-append (step σ k).1 a b)

-- A machine of parts: a call is for one key; its answer and its part's next state hang on that part alone; the others stay; a state is its parts.
pub record Parts {S X K A : Type 0} (key : K → ℕ) (step : S → K → A × S) (n : ℕ) (get : ℕ → S → X) (one : X → K → A × X) (Ok : S → Type 0) (Right : K → Type 0) : Type 0 where
  pub below : (k : K) → Right k → key k < n
  pub ok : (σ : S) (k : K) → Ok σ → Right k → Ok (step σ k).1
  pub answer : (σ : S) (k : K) → Ok σ → Right k → (step σ k).0 ≡ (one (get (key k) σ) k).0
  pub same : (σ : S) (k : K) → Ok σ → Right k → get (key k) (step σ k).1 ≡ (one (get (key k) σ) k).1
  pub other : (σ : S) (k : K) (j : ℕ) → Ok σ → Right k → key k ≢ j → get j (step σ k).1 ≡ get j σ
  pub ext : (σ τ : S) → Ok σ → Ok τ → ((j : ℕ) → j < n → get j σ ≡ get j τ) → σ ≡ τ

module _ {S X K A : Type 0} (key : K → ℕ) (step : S → K → A × S) (n : ℕ) (get : ℕ → S → X) (one : X → K → A × X) (Ok : S → Type 0) (Right : K → Type 0)
    (P : Parts key step n get one Ok Right) where
  pub after-ok : (σ : S) (ks : List K) → Ok σ → All Right ks → Ok (state_after step σ ks)
  after-ok σ [] o r = o
  after-ok σ (k ∷ ks) o r = after-ok (step σ k).1 ks (P.ok σ k o r.0) r.1

  pub part-after-calls : (s : ℕ) (σ : S) (ks : List K) → Ok σ → All Right ks → get s (state_after step σ ks) ≡ state_after one (get s σ) (with_key key s ks)
  part-after-calls s σ [] o r = refl
  part-after-calls s σ (k ∷ ks) o r =
      part-after-calls s (step σ k).1 ks (P.ok σ k o r.0) r.1
      ∙ both (λ t. state_after one (get s (step σ k).1) (with_key key s ks) ≡ state_after one (get s σ) (keep_if t k (with_key key s ks))) (eqb (key k) s)
      (λ e. let q : key k ≡ s = eqb-true (key k) s e in
      ap (λ (x : X). state_after one x (with_key key s ks)) (rw (← q) (P.same σ k o r.0)))
      (λ e. ap (λ (x : X). state_after one x (with_key key s ks)) (P.other σ k s o r.0 (eqb-false (key k) s e)))

  pub part-answers : (s : ℕ) (σ : S) (ks : List K) → Ok σ → All Right ks → with_key (key_of key) s (answers step σ ks) ≡ answers one (get s σ) (with_key key s ks)
  part-answers s σ [] o r = refl
  part-answers s σ (k ∷ ks) o r =
      let ih = part-answers s (step σ k).1 ks (P.ok σ k o r.0) r.1 in
      both (λ t. keep_if t (k, (step σ k).0) (with_key (key_of key) s (answers step (step σ k).1 ks)) ≡ answers one (get s σ) (keep_if t k (with_key key s ks))) (eqb (key k) s)
      (λ e. let q : key k ≡ s = eqb-true (key k) s e in
      let same : get s (step σ k).1 ≡ (one (get s σ) k).1 = subst (λ (z : ℕ). get z (step σ k).1 ≡ (one (get z σ) k).1) q (P.same σ k o r.0) in
      let answer : (step σ k).0 ≡ (one (get s σ) k).0 = subst (λ (z : ℕ). (step σ k).0 ≡ (one (get z σ) k).0) q (P.answer σ k o r.0) in
      rw (ih, same, answer))
      (λ e. ih ∙ ap (λ (x : X). answers one x (with_key key s ks)) (P.other σ k s o r.0 (eqb-false (key k) s e)))

  -- calls that are all for one socket
  one-key-answers : (s : ℕ) (σ : S) (ks : List K) → Ok σ → All Right ks → answers step σ (with_key key s ks) ≡ answers one (get s σ) (with_key key s ks)
  one-key-answers s σ [] o r = refl
  one-key-answers s σ (k ∷ ks) o r =
      both (λ t. answers step σ (keep_if t k (with_key key s ks)) ≡ answers one (get s σ) (keep_if t k (with_key key s ks))) (eqb (key k) s)
      (λ e. let q : key k ≡ s = eqb-true (key k) s e in
      let same : get s (step σ k).1 ≡ (one (get s σ) k).1 = subst (λ (z : ℕ). get z (step σ k).1 ≡ (one (get z σ) k).1) q (P.same σ k o r.0) in
      let answer : (step σ k).0 ≡ (one (get s σ) k).0 = subst (λ (z : ℕ). (step σ k).0 ≡ (one (get z σ) k).0) q (P.answer σ k o r.0) in
      rw (one-key-answers s (step σ k).1 ks (P.ok σ k o r.0) r.1, same, answer))
      (λ e. one-key-answers s σ ks o r.1)

  -- in any mixture, or socket after socket: the same end, and each call has the same answer
  in-turn-answers : (m : ℕ) (σ : S) (ks : List K) → Ok σ → All Right ks → answers step σ (in_turn key m ks) ≡ in_turn (key_of key) m (answers step σ ks)
  in-turn-answers zero σ ks o r = refl
  in-turn-answers (suc m) σ ks o r =
      let rs = all-in-turn Right key m ks r in
      answers-append step σ (in_turn key m ks) (with_key key m ks)
      ∙ rw (
        in-turn-answers m σ ks o r,
        one-key-answers m (state_after step σ (in_turn key m ks)) ks (after-ok σ (in_turn key m ks) o rs) r,
        part-after-calls m σ (in_turn key m ks) o rs,
        in-turn-above key m m (omega arith) ks,
        part-answers m σ ks o r,
      )

  pub mixture : (σ : S) (ks : List K) → Ok σ → All Right ks
      → (state_after step σ (in_turn key n ks) ≡ state_after step σ ks) × (answers step σ (in_turn key n ks) ≡ in_turn (key_of key) n (answers step σ ks))
  mixture σ ks o r =
      let rs = all-in-turn Right key n ks r in (
        P.ext _ _ (after-ok σ (in_turn key n ks) o rs) (after-ok σ ks o r)
            (λ j h. part-after-calls j σ (in_turn key n ks) o rs ∙ rw (in-turn-key key n j h ks) (sym (part-after-calls j σ ks o r))),
        in-turn-answers n σ ks o r,
      )
