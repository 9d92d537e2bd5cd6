-- One link and the segments of one message, in any order and with any repeats.
use Prim.Native.Nat.{ℕ, zero, suc, ◌+◌, ◌≤◌}
use Rattle.links.specs.declared.Answer.{Answer}
use Rattle.links.specs.declared.Refusal.{Refusal}
use Rattle.std.specs.Prelude.{Option, Some, None, Result, Ok, Err}
use native.Mathlib.Omega.{arith}
use mathlib.Core.Bool.{true, false, cond, false≢true}
use mathlib.Core.List.{List, [], ◌∷◌, ◌++◌, append-nil}
use mathlib.Core.Logic.{◌≢◌}
use mathlib.Core.Path.{◌≡◌, refl, sym, ap, ◌∙◌}
use lib.Dec.{eqb}
use lib.ListN.{length, take}
use lib.Seq.{append_snoc, take_all}
use borrow.Author.Tests.{eqb-true, eqb-false, eq-eqb, le-leb}
use Rattle.octets.specs.Parts.{write}
use Rattle.octets.specs.Cut.{piece}
use Rattle.octets.proofs.Parts.{write-length, same_refl}
use Rattle.octets.proofs.Cut.{place_up, last_begins, last-enough, piece-fits, piece-same, piece-other, equal-pieces}
use Rattle.octets.proofs.Tests.{cases, both}
use Rattle.fcs.specs.Fcs.{check_octet}
use Rattle.transactions.specs.Segments.{seg_n, segment_place, segment_length, segment}
use Rattle.transactions.specs.declared.TransactionNumber.{TransactionNumber}
use Rattle.transactions.proofs.Laws.{segment-long, segment-begins}
use Rattle.pb_adv_writing.specs.Writing.{header_of}
use Rattle.links.specs.Marks.{is_marked, with_mark}
use Rattle.links.specs.Links.{is_last, Awaits, with_received}
use Rattle.links.specs.Segments.{OneLink, entered, offered, segment_step}
use Rattle.links.specs.Interleaving.{All, state_after}
use Rattle.links.specs.declared.HalfMessage.{HalfMessage}
use Rattle.links.specs.declared.Refusal.TheVariants as R
use Rattle.links.specs.declared.Answer.TheVariants as A
use Rattle.links.proofs.Marks.{marked-same, marked_other, none-marked}
use Rattle.links.proofs.Come.{since_start, has, complete, push, since-start-snoc, has-snoc, complete-nil, complete-mono, has-of-complete, all-complete, complete-cong, has-again}

-- ---- where segments stand: the laws of the cut, at 20 and 23

-- segment k of the first n octets of a list
abbrev pub segment_in : ℕ → List ℕ → ℕ → List ℕ
segment_in n l k = piece segment_place n l k

module _ (n : ℕ) (p : List ℕ) (k : ℕ) (d : List ℕ) (some : 1 ≤ n) (room : n ≤ length p) (inside : k ≤ seg_n n) (right : length d ≡ segment_length n k) where
  begins : segment_place k ≤ n
  begins = omega (arith, segment-begins n k some inside)

  pub segment-fits-in : segment_place k + length d ≤ length p
  segment-fits-in = piece-fits segment_place refl (place_up 20 23) n p k d room begins right

  pub segment-same : segment_in n (write p (segment_place k) d) k ≡ d
  segment-same = piece-same segment_place refl (place_up 20 23) n p k d room begins right

  pub segment-other : (j : ℕ) → k ≢ j → segment_in n (write p (segment_place k) d) j ≡ segment_in n p j
  segment-other j h = piece-other segment_place refl (place_up 20 23) n p k d room begins right j h

-- a list whose segments are the message's begins with it
pub whole-message : (m p : List ℕ) → ((j : ℕ) → j ≤ seg_n (length m) → segment_in (length m) p j ≡ segment m j) → take (length m) p ≡ m
whole-message m p h =
    equal-pieces segment_place refl (place_up 20 23) (length m) (seg_n (length m)) (last_begins 20 23 (length m) (omega arith)) (last-enough 20 23 (length m) (omega arith)) p m h
    ∙ take_all (length m) m (omega arith)

-- ---- one step
module _ (m : List ℕ) (t : TransactionNumber) where
  -- the marks are those of what has come, and the octets that came are in
  pub record Held (l : List ℕ) (marks : ℕ) (p : List ℕ) : Type 0 where
    pub room : length m ≤ length p
    pub mark : (j : ℕ) → j ≤ seg_n (length m) → is_marked marks j ≡ has j l
    pub octets : (j : ℕ) → j ≤ seg_n (length m) → has j l ≡ true → segment_in (length m) p j ≡ segment m j

  abbrev pub half_of : ℕ → HalfMessage
  half_of marks = record { number = t; length = length m; check = check_octet m; marks = marks }

  -- l: what has come since the first Start
  pub data Inv (l : List ℕ) (x : OneLink) : Type 0 where
    fresh : l ≡ [] → Awaits x.link.last t → x.link.half ≡ None → length m ≤ length x.part → Inv l x
    going : (q : List ℕ) → l ≡ 0 ∷ q → complete (seg_n (length m)) l ≡ false → Awaits x.link.last t
        → (marks : ℕ) → x.link.half ≡ Some (half_of marks) → Held l marks x.part → Inv l x
    done : complete (seg_n (length m)) l ≡ true → x.link.last ≡ Some t → x.link.half ≡ None → take (length m) x.part ≡ m → Inv l x

  -- it hangs on the last delivered number, what is half-received and the part alone
  pub inv-same : (l : List ℕ) (x y : OneLink) → y.link.last ≡ x.link.last → y.link.half ≡ x.link.half → y.part ≡ x.part → Inv l x → Inv l y
  inv-same l x y a b c (fresh e w h room) = fresh e (rw a w) (b ∙ h) (rw c room)
  inv-same l x y a b c (going q e n w marks h held) = going q e n (rw a w) marks (b ∙ h) (rw c held)
  inv-same l x y a b c (done n w h t) = done n (a ∙ w) (b ∙ h) (rw c t)

  -- the answer to segment k after l
  abbrev pub answer_to : List ℕ → ℕ → Result Answer Refusal
  answer_to l k =
      cond (complete (seg_n (length m)) l) (Ok A.AcknowledgeAgain)
      (cond (has k l) (Ok A.Repeat)
      (cond (complete (seg_n (length m)) (push l k)) (Ok (A.Delivered (length m) t))
      (cond (has k (push l k)) (Ok A.Kept) (Err R.NotBegun))))

  module _ (some : 1 ≤ length m) where
    -- a new segment
    module _ (x : OneLink) (l : List ℕ) (marks : ℕ) (k : ℕ) (q : List ℕ) (inside : k ≤ seg_n (length m)) (held : Held l marks x.part)
        (awaits : Awaits x.link.last t) (new : (j : ℕ) → has j (0 ∷ q) ≡ cond (eqb k j) true (has j l)) where
      held_next : Held (0 ∷ q) (with_mark marks k) (write x.part (segment_place k) (segment m k))
      held_next = record {
        room = rw (write-length x.part (segment_place k) (segment m k) (segment-fits-in (length m) x.part k (segment m k) some held.room inside (segment-long m k))) held.room;
        mark = λ j b.
            both (λ c. is_marked (with_mark marks k) j ≡ cond c true (has j l)) (eqb k j)
            (λ e. rw (← (eqb-true k j e)) (marked-same marks k))
            (λ e. marked_other marks k j (eqb-false k j e) ∙ held.mark j b)
            ∙ sym (new j);
        octets = λ j b h.
            cases (eqb k j)
            (λ e. rw (← (eqb-true k j e)) (segment-same (length m) x.part k (segment m k) some held.room inside (segment-long m k)))
            (λ e. segment-other (length m) x.part k (segment m k) some held.room inside (segment-long m k) j (eqb-false k j e)
            ∙ held.octets j b (rw e at (sym (new j) ∙ h)));
      }

      enter : ((entered x (half_of marks) k (segment m k)).0 ≡ cond (complete (seg_n (length m)) (0 ∷ q)) (Ok (A.Delivered (length m) t)) (Ok A.Kept))
          × Inv (0 ∷ q) (entered x (half_of marks) k (segment m k)).1
      unfolding entered
      enter =
          let ac = all-complete (seg_n (length m)) (with_mark marks k) (0 ∷ q) held_next.mark in
          cases (complete (seg_n (length m)) (0 ∷ q))
          (λ e. let w = whole-message m (write x.part (segment_place k) (segment m k)) (λ j b. held_next.octets j b (has-of-complete (seg_n (length m)) (0 ∷ q) e j b)) in
          rw (ac, e, w, eq-eqb (check_octet m) (check_octet m) refl) (refl, done e refl refl w))
          (λ e. rw (ac, e) (refl, going q refl e awaits (with_mark marks k) refl held_next))

    offer : (x : OneLink) (q : List ℕ) (marks : ℕ) (k : ℕ) → k ≤ seg_n (length m) → complete (seg_n (length m)) (0 ∷ q) ≡ false
        → Awaits x.link.last t → x.link.half ≡ Some (half_of marks) → Held (0 ∷ q) marks x.part
        → ((offered x (half_of marks) k (segment m k)).0 ≡ answer_to (0 ∷ q) k) × Inv (0 ∷ (q ++ (k ∷ []))) (offered x (half_of marks) k (segment m k)).1
    unfolding offered
    offer x q marks k inside nc awaits hh held =
        rw (le-leb k (seg_n (length m)) inside, eq-eqb (length (segment m k)) (segment_length (length m) k) (segment-long m k), held.mark k inside, nc)
        (cases (has k (0 ∷ q))
        (λ e. let a = has-again k (0 ∷ q) e in
        rw (e, held.octets k inside e, same_refl (segment m k)) (
          refl,
          going (q ++ (k ∷ [])) refl (complete-cong (seg_n (length m)) ((0 ∷ q) ++ (k ∷ [])) (0 ∷ q) a ∙ nc) awaits marks hh
              (record { room = held.room; mark = λ j b. held.mark j b ∙ sym (a j); octets = λ j b g. held.octets j b (sym (a j) ∙ g) }),
        ))
        (λ e. let r = enter x (0 ∷ q) marks k (q ++ (k ∷ [])) inside held awaits (λ j. has-snoc j (0 ∷ q) k) in
        rw (e, has-snoc k (0 ∷ q) k, eq-eqb k k refl) r))

    none-held : (p : List ℕ) → length m ≤ length p → Held [] 0 p
    none-held p room = record { room = room; mark = λ j b. none-marked j; octets = λ j b g. absurd (false≢true g) }

    -- a link whose half-received message is known, written out
    abbrev holding : OneLink → Option HalfMessage → OneLink
    holding x half = record { link = with_received x.link x.link.last half; part = x.part }

    pub step-inv : (l : List ℕ) (x : OneLink) (k : ℕ) → k ≤ seg_n (length m) → Inv l x
        → ((segment_step x t (header_of m k) (segment m k)).0 ≡ answer_to l k) × Inv (push l k) (segment_step x t (header_of m k) (segment m k)).1
    unfolding segment_step header_of
    step-inv l x zero inside (fresh el awaits hh room) =
        rw (el, awaits.not_last, hh, complete-nil (seg_n (length m))) (enter (holding x None) [] 0 0 [] inside (none-held x.part room) awaits (λ j. refl))
    step-inv l x (suc k) inside (fresh el awaits hh room) =
        rw (el, awaits.not_last, hh, complete-nil (seg_n (length m))) (refl, fresh refl awaits refl room)
    step-inv l x zero inside (going q el nc awaits marks hh held) =
        rw (el, awaits.not_last, hh, eq-eqb t.0 t.0 refl, eq-eqb (length m) (length m) refl, eq-eqb (check_octet m) (check_octet m) refl)
        (offer (holding x (Some (half_of marks))) q marks 0 inside (rw el at nc) awaits refl (rw el at held))
    step-inv l x (suc k) inside (going q el nc awaits marks hh held) =
        rw (el, awaits.not_last, hh, eq-eqb t.0 t.0 refl)
        (offer (holding x (Some (half_of marks))) q marks (suc k) inside (rw el at nc) awaits refl (rw el at held))
    step-inv l x k inside (done c last hn w) =
        let a : is_last x.link.last t ≡ true = ap (λ (o : Option TransactionNumber). is_last o t) last ∙ eq-eqb t.0 t.0 refl in
        rw (a, c) (refl, done (complete-mono (seg_n (length m)) l k c) last hn w)

    -- one segment of the message at the link
    abbrev pub one : OneLink → ℕ → Result Answer Refusal × OneLink
    one x k = segment_step x t (header_of m k) (segment m k)

    runs : (a b : List ℕ) (x : OneLink) → All (λ k. k ≤ seg_n (length m)) b → Inv (since_start a) x → Inv (since_start (a ++ b)) (state_after one x b)
    runs a [] x r i = rw (append-nil a) i
    runs a (k ∷ b) x r i =
        rw (← (append_snoc a k b)) (runs (a ++ (k ∷ [])) b (one x k).1 r.1 (rw (since-start-snoc a k) (step-inv (since_start a) x k r.0 i).1))

    -- once all have come, the message stands
    pub inv-stands : (l : List ℕ) (x : OneLink) → complete (seg_n (length m)) l ≡ true → Inv l x → take (length m) x.part ≡ m
    inv-stands l x c (fresh e _ _ _) = absurd (false≢true (rw (e, complete-nil (seg_n (length m))) at c))
    inv-stands l x c (going _ _ f _ _ _ _) = absurd (false≢true (sym f ∙ c))
    inv-stands l x c (done _ _ _ w) = w

    module _ (x : OneLink) (awaits : Awaits x.link.last t) (nothing : x.link.half ≡ None) (room : length m ≤ length x.part) where
      -- ONE LINK: every answer, for any segments of the message in any order and with any repeats
      pub one_answer : (pre : List ℕ) → All (λ k. k ≤ seg_n (length m)) pre → (k : ℕ) → k ≤ seg_n (length m)
          → (one (state_after one x pre) k).0 ≡ answer_to (since_start pre) k
      one_answer pre r k b = (step-inv (since_start pre) (state_after one x pre) k b (runs [] pre x r (fresh refl awaits nothing room))).0

      -- and what stands at the start of the part once all have come
      pub one-stands : (ks : List ℕ) → All (λ k. k ≤ seg_n (length m)) ks → complete (seg_n (length m)) (since_start ks) ≡ true
          → take (length m) (state_after one x ks).part ≡ m
      one-stands ks r c = inv-stands (since_start ks) (state_after one x ks) c (runs [] ks x r (fresh refl awaits nothing room))
