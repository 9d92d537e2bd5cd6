-- When a state isn't bad (`specs/Bad.antt`).
use Prim.Native.Nat.{ℕ, zero, suc, ◌+◌, ◌-◌, ◌/◌, ◌%◌, ◌^◌, ◌≤◌, ◌<◌}
use Rattle.std.specs.Prelude.{Option, Some, None}
use native.Mathlib.Nat.{div-eq_of_lt, div-one}
use native.Mathlib.Omega.{arith}
use mathlib.Core.Bool.{true, false, not, false≢true}
use mathlib.Core.List.{List, [], ◌∷◌}
use mathlib.Core.Logic.{◌≢◌}
use mathlib.Core.Path.{◌≡◌, refl, sym, ap, ◌∙◌, subst}
use lib.Dec.{eqb}
use lib.ListN.{length, get_or}
use lib.Pow.{pow_pos, shr-shr}
use borrow.Author.Tests.{eqb-true, eqb-false, eq-eqb, ne_eqb, not-true}
use Rattle.transactions.specs.Numbers.{socket_place}
use Rattle.octets.proofs.Tests.{cases, both_hold, holds-both}
use Rattle.transactions.specs.Segments.{seg_n}
use Rattle.transactions.specs.declared.TransactionNumber.{TransactionNumber}
use Rattle.transactions.specs.declared.Socket.{Socket}
use Rattle.links.specs.Marks.{is_marked, all_marked, none_above}
use Rattle.links.specs.Links.{peer, sends, first_number, is_last, blank_with, in_use}
use Rattle.links.specs.Good.{good_message, good_half, good_last, is_nothing, is_empty, at_rest, good_as, good_link, apart, all_apart, good}
use Rattle.links.specs.Station.{no_link, link_at}
use Rattle.links.specs.Bad.{InHalf, sends_from, blank_record, MessageNotBad, LinkNotBad, NotBad, BadStates}
use Rattle.links.specs.declared.Side.{Side}
use Rattle.links.specs.declared.Side.TheVariants.{Provisioner, Device}
use Rattle.links.specs.declared.LinkState.{LinkState}
use Rattle.links.specs.declared.LinkState.TheVariants as S
use Rattle.links.specs.declared.HalfMessage.{HalfMessage}
use Rattle.links.specs.declared.Link.{Link}
use Rattle.links.proofs.Marks.{all-marked-each}
use Rattle.links.proofs.Sockets.{socket_at, place-below, socket-at, is-socket}
use Rattle.links.proofs.Lens.{all-at, all-each, apart-at, good-out}
use Rattle.links.proofs.Keep.{message-in, message-out, open-out, open_in, blank-good}

-- ---- numbers

in-half : (side : Side) (t : TransactionNumber) → sends side t ≡ true → InHalf side t
in-half Provisioner t e = omega (arith, eqb-true (t.0 / 128) 0 e)
in-half Device t e = let q = eqb-true (t.0 / 128) 1 e in (omega arith, omega arith)

pub half_in : (side : Side) (t : TransactionNumber) → InHalf side t → sends side t ≡ true
half_in Provisioner t h = eq-eqb (t.0 / 128) 0 (omega arith)
half_in Device t h = eq-eqb (t.0 / 128) 1 (omega (arith, h.0, h.1))

-- ---- marks

-- one of the segments that are not all in
one-missing : (n w : ℕ) → all_marked n w ≡ false → (k : ℕ) × (k ≤ n) × (is_marked w k ≡ false)
one-missing zero w e = (0, omega arith, e)
one-missing (suc n) w e =
    cases (is_marked w (suc n))
    (λ m. let r = one-missing n w (rw m at e) in (r.0, omega (arith, r.1), r.2))
    (λ m. (suc n, omega arith, m))

-- a number whose bits are all 0
no_bits : (b v : ℕ) → v ≤ b → ((j : ℕ) → v / 2 ^ j % 2 ≡ 0) → v ≡ 0
no_bits zero v h bits = omega arith
no_bits (suc b) v h bits =
    let even : v % 2 ≡ 0 = rw (div-one v) at (bits 0) in
    let rest : v / 2 ≡ 0 = no_bits b (v / 2) (omega arith) (λ j. ap (λ (x : ℕ). x % 2) (shr-shr v 1 j) ∙ bits (1 + j)) in
    omega arith

none-above-each : (n w : ℕ) → none_above n w ≡ true → (k : ℕ) → n < k → is_marked w k ≡ false
unfolding none_above is_marked
none-above-each n w e k h =
    let q : k ≡ suc n + (k - suc n) = omega arith in
    let z : w / 2 ^ k ≡ 0 =
    ap (λ (i : ℕ). w / 2 ^ i) q ∙ sym (shr-shr w (suc n) (k - suc n)) ∙ ap (λ (x : ℕ). x / 2 ^ (k - suc n)) (eqb-true (w / 2 ^ suc n) 0 e) ∙ div-eq_of_lt (pow_pos (k - suc n)) in
    rw z

each-none-above : (n w : ℕ) → ((k : ℕ) → n < k → is_marked w k ≡ false) → none_above n w ≡ true
unfolding none_above is_marked
each-none-above n w h =
    eq-eqb (w / 2 ^ suc n) 0
    (no_bits (w / 2 ^ suc n) (w / 2 ^ suc n) (omega arith)
    (λ j. let f = eqb-false (w / 2 ^ (suc n + j) % 2) 1 (h (suc n + j) (omega arith)) in
    ap (λ (x : ℕ). x % 2) (shr-shr w (suc n) j) ∙ omega arith))

-- ---- a half-received message

last-other : (last : Option TransactionNumber) (t : TransactionNumber) → is_last last t ≡ false → last ≢ Some t
last-other None t e q = let z : ◌≡◌ {A = ℕ} 0 1 = cc in absurd (omega arith)
last-other (Some u) t e q = eqb-false u.0 t.0 e (ap (λ (l : Option TransactionNumber). number_in l) q)
  where
    number_in : Option TransactionNumber → ℕ
    number_in None = 0
    number_in (Some v) = v.0

pub other_last : (last : Option TransactionNumber) (t : TransactionNumber) → last ≢ Some t → is_last last t ≡ false
other_last None t h = refl
other_last (Some u) t h = ne_eqb u.0 t.0 (λ q. h (λ i. Some (record { 0 = q i })))

module _ (side : Side) (last : Option TransactionNumber) (h : HalfMessage) where
  message-not-bad : good_message side last h ≡ true → MessageNotBad side last h
  message-not-bad e =
      let g = message-out side last h e in
      record {
        number = in-half (peer side) h.number g.number;
        first = g.first;
        missing = one-missing (seg_n h.length) h.marks g.missing;
        long = (g.some-octets, g.few-octets);
        above = none-above-each (seg_n h.length) h.marks g.above;
        new = last-other last h.number g.other;
      }

  not-bad-message : MessageNotBad side last h → good_message side last h ≡ true
  not-bad-message b =
      message-in side last h (record {
        number = half_in (peer side) h.number b.number;
        some-octets = b.long.0;
        few-octets = b.long.1;
        other = other_last last h.number b.new;
        first = b.first;
        missing = cases (all_marked (seg_n h.length) h.marks)
            (λ e. absurd (false≢true (sym b.missing.2 ∙ all-marked-each (seg_n h.length) h.marks e b.missing.0 b.missing.1)))
            (λ e. e);
        above = each-none-above (seg_n h.length) h.marks b.above;
      })

-- ---- a record

nothing_is : (last : Option TransactionNumber) → is_nothing last ≡ true → last ≡ None
nothing_is None e = refl
nothing_is (Some t) e = absurd (false≢true e)

empty-is : (half : Option HalfMessage) → is_empty half ≡ true → half ≡ None
empty-is None e = refl
empty-is (Some h) e = absurd (false≢true e)

-- blank by its definition and in words
first-sent : (side : Side) → first_number side ≡ record { 0 = sends_from side }
first-sent Provisioner = refl
first-sent Device = refl

pub blank-said : (side : Side) (state : LinkState) (id : ℕ) → blank_with side state id ≡ blank_record side state id
blank-said side state id = rw (first-sent side)

-- a record that is blank but for its state and Link ID
rest-is : (side : Side) (l : Link) (state : LinkState) → l.state ≡ state → at_rest side l ≡ true → l ≡ blank_record side state l.id
rest-is side l state e h =
    let p = both_hold {a = eqb l.next.0 (first_number side).0} h in
    let q = both_hold {a = not l.outstanding} p.1 in
    let r = both_hold {a = is_nothing l.last} q.1 in
    let n : l.next.0 ≡ sends_from side = eqb-true l.next.0 (first_number side).0 p.0 ∙ ap (λ (t : TransactionNumber). t.0) (first-sent side) in
    λ i. record {
      state = e i;
      id = l.id;
      next = record { 0 = n i };
      outstanding = not-true l.outstanding q.0 i;
      last = nothing_is l.last r.0 i;
      half = empty-is l.half r.1 i;
    }

first-in-half : (side : Side) → InHalf side (record { 0 = sends_from side })
first-in-half Provisioner = omega arith
first-in-half Device = (omega arith, omega arith)

-- a blank record has no number outside its half and no half-received message
blank-not-bad : (side : Side) (l : Link) (state : LinkState) (id : ℕ) → l ≡ blank_record side state id
    → (l.state ≡ S.Free → l ≡ blank_record side S.Free 0) → (l.state ≡ S.Opening → (side ≡ Provisioner) × (l ≡ blank_record side S.Opening l.id))
    → LinkNotBad side l
blank-not-bad side l state id e free opening = record {
  free = free;
  opening = opening;
  next = subst (λ (m : Link). InHalf side m.next) (sym e) (first-in-half side);
  last = λ t q. let n : l.last ≡ None = ap (λ (m : Link). m.last) e in let z : ◌≡◌ {A = ℕ} 0 1 = cc in absurd (omega arith);
  half = λ h q. let n : l.half ≡ None = ap (λ (m : Link). m.half) e in let z : ◌≡◌ {A = ℕ} 0 1 = cc in absurd (omega arith);
}

by_state : (side : Side) (l : Link) (state : LinkState) → l.state ≡ state → good_as side state l ≡ true → LinkNotBad side l
by_state side l S.Free e g =
    let p = both_hold {a = eqb l.id 0} g in
    let b : l ≡ blank_record side S.Free 0 = rest-is side l S.Free e p.1 ∙ ap (blank_record side S.Free) (eqb-true l.id 0 p.0) in
    blank-not-bad side l S.Free 0 b (λ _. b) (λ q. let z : ◌≡◌ {A = ℕ} 0 1 = cc in absurd (omega arith))
by_state Provisioner l S.Opening e g =
    let b = rest-is Provisioner l S.Opening e g in
    blank-not-bad Provisioner l S.Opening l.id b (λ q. let z : ◌≡◌ {A = ℕ} 0 1 = cc in absurd (omega arith)) (λ _. (refl, b))
by_state Device l S.Opening e g = absurd (false≢true g)
by_state side l S.Open e g =
    let p = open-out side l g in
    record {
      free = λ q. let z : ◌≡◌ {A = ℕ} 0 1 = cc in absurd (omega arith);
      opening = λ q. let z : ◌≡◌ {A = ℕ} 0 1 = cc in absurd (omega arith);
      next = in-half side l.next p.0;
      last = λ t q. in-half (peer side) t (rw q at p.1);
      half = λ h q. message-not-bad side l.last h (rw q at p.2);
    }

last-good : (side : Side) (last : Option TransactionNumber) → ((t : TransactionNumber) → last ≡ Some t → InHalf (peer side) t) → good_last side last ≡ true
last-good side None h = refl
last-good side (Some t) h = half_in (peer side) t (h t refl)

half-good : (side : Side) (last : Option TransactionNumber) (half : Option HalfMessage) → ((h : HalfMessage) → half ≡ Some h → MessageNotBad side last h)
    → good_half side last half ≡ true
half-good side last None b = refl
half-good side last (Some h) b = not-bad-message side last h (b h refl)

pub good-by-state : (side : Side) (l : Link) (state : LinkState) → l.state ≡ state → LinkNotBad side l → good_link side l ≡ true
good-by-state side l S.Free e b = subst (λ (m : Link). good_link side m ≡ true) (blank-said side S.Free 0 ∙ sym (b.free e)) (blank-good side)
good-by-state side l S.Opening e b =
    let o = b.opening e in
    rw o.0 (subst (λ (m : Link). good_link Provisioner m ≡ true) (sym (rw o.0 at o.1)) refl)
good-by-state side l S.Open e b =
    open_in side l e (half_in side l.next b.next) (last-good side l.last b.last) (half-good side l.last l.half b.half)

-- ---- all records

used : (state : LinkState) → state ≢ S.Free → in_use state ≡ true
used S.Free h = absurd (h refl)
used S.Opening h = refl
used S.Open h = refl

free-unused : (state : LinkState) → in_use state ≡ true → state ≢ S.Free
free-unused state u q = false≢true (sym (ap in_use q) ∙ u)

-- records that are apart
all_apart_lem : (ls : List Link) → ((i j : ℕ) → i < length ls → j < length ls → i ≢ j → apart (get_or ls i no_link) (get_or ls j no_link) ≡ true) → all_apart ls ≡ true
all_apart_lem [] h = refl
all_apart_lem (l ∷ ls) h =
    holds-both
    (all-each (apart l) ls no_link (λ j b. h 0 (suc j) (omega arith) (omega arith) (λ q. absurd (omega arith))))
    (all_apart_lem ls (λ i j b c d. h (suc i) (suc j) (omega arith) (omega arith) (λ q. d (omega arith))))

-- two records in use that are apart have different Link IDs
apart-ids : (a b : Link) → apart a b ≡ true → in_use a.state ≡ true → in_use b.state ≡ true → a.id ≢ b.id
apart-ids a b h u v q = false≢true (rw (u, v, eq-eqb a.id b.id q) at h)

ids-apart : (a b : Link) → (in_use a.state ≡ true → in_use b.state ≡ true → a.id ≢ b.id) → apart a b ≡ true
ids-apart a b h =
    cases (in_use a.state)
    (λ u. cases (in_use b.state) (λ v. rw (u, v, ne_eqb a.id b.id (h u v))) (λ v. rw (u, v)))
    (λ u. rw u)

module _ (side : Side) (ls : List Link) where
  not-bad : good side ls ≡ true → NotBad side ls
  not-bad g =
      let p = good-out side ls g in
      record {
        records = λ s b. by_state side (link_at ls s) (link_at ls s).state refl (all-at (good_link side) ls (socket_place s) no_link p.0 (place-below s (length ls) b));
        different = λ s t b c u v q.
            cases (eqb (socket_place s) (socket_place t))
            (λ e. sym (socket-at s (length ls) b) ∙ ap socket_at (eqb-true (socket_place s) (socket_place t) e) ∙ socket-at t (length ls) c)
            (λ e. absurd
            (apart-ids (link_at ls s) (link_at ls t)
            (apart-at ls (socket_place s) (socket_place t) p.1 (place-below s (length ls) b) (place-below t (length ls) c) (eqb-false (socket_place s) (socket_place t) e))
            (used (link_at ls s).state u) (used (link_at ls t).state v) q));
      }

  is-good : NotBad side ls → good side ls ≡ true
  unfolding good
  is-good b =
      holds-both
      (all-each (good_link side) ls no_link
      (λ i below. good-by-state side (get_or ls i no_link) (get_or ls i no_link).state refl (rw (link-at i) at (b.records (socket_at i) (is-socket i (length ls) below)))))
      (all_apart_lem ls (λ i j low high d. ids-apart (get_or ls i no_link) (get_or ls j no_link)
      (λ u v q. d (same_place i j (b.different (socket_at i) (socket_at j) (is-socket i (length ls) low) (is-socket j (length ls) high)
      (rw (link-at i) (free-unused (get_or ls i no_link).state u)) (rw (link-at j) (free-unused (get_or ls j no_link).state v)) (rw (link-at i, link-at j) q))))))
    where
      link-at : (i : ℕ) → link_at ls (socket_at i) ≡ get_or ls i no_link
      link-at i = let q : i + 1 - 1 ≡ i = omega arith in rw q

      same_place : (i j : ℕ) → socket_at i ≡ socket_at j → i ≡ j
      same_place i j q = let r : i + 1 ≡ j + 1 = ap (λ (s : Socket). s.0) q in omega arith

-- refusal 14 is for the states that are bad, and for no others
pub bad-states : BadStates
bad-states side ls = (not-bad side ls, is-good side ls)
