-- What a segment can do, said once: nothing, or it enters as a new one.
use Prim.Native.Nat.{ℕ, zero, suc, ◌≤◌}
use Rattle.links.specs.declared.Answer.{Answer}
use Rattle.links.specs.declared.Refusal.{Refusal}
use Rattle.std.specs.Prelude.{Option, Some, None, Result, Ok, Err}
use native.Mathlib.Omega.{arith}
use mathlib.Core.Bool.{true, false, ◌&&◌}
use mathlib.Core.List.{List}
use mathlib.Core.Logic.{◌≢◌}
use mathlib.Core.Path.{◌≡◌, refl, sym, ap, ap₂, ◌∙◌}
use lib.Dec.{eqb, leb}
use lib.ListN.{length}
use borrow.Author.Tests.{eqb-true, leb-true, eqb-false}
use Rattle.octets.specs.Parts.{same}
use Rattle.octets.specs.Cut.{piece}
use Rattle.octets.proofs.Tests.{cases, both_hold}
use Rattle.transactions.specs.Segments.{seg_n, segment_place, segment_length}
use Rattle.pb_adv.specs.Promises.{Fits}
use Rattle.transactions.specs.declared.TransactionNumber.{TransactionNumber}
use Rattle.pb_adv.specs.declared.SegmentHeader.{SegmentHeader}
use Rattle.pb_adv.specs.declared.SegmentHeader.TheVariants.{Start, Continuation}
use Rattle.links.specs.Marks.{is_marked}
use Rattle.links.specs.Links.{is_last}
use Rattle.links.specs.Segments.{OneLink, entered, offered, begun, on_half, segment_step}
use Rattle.links.specs.declared.HalfMessage.{HalfMessage}
use Rattle.links.specs.declared.Refusal.TheVariants as R
use Rattle.links.specs.declared.Answer.TheVariants as A
use Rattle.links.proofs.Marks.{none-marked}

-- the header of segment k of a message of n octets with check octet c
abbrev pub header_at : ℕ → ℕ → ℕ → SegmentHeader
header_at n c zero = Start n c
header_at n c (suc k) = Continuation (suc k)

continuation-at : (n c k : ℕ) → 1 ≤ k → Continuation k ≡ header_at n c k
continuation-at n c zero h = absurd (omega arith)
continuation-at n c (suc k) h = refl

-- what holds of an answer if it is a delivery
abbrev pub IfDelivered : (ℕ → TransactionNumber → Type 0) → Result Answer Refusal → Type 0
IfDelivered P (Err r) = Unit {0}
IfDelivered P (Ok A.AcknowledgeAgain) = Unit {0}
IfDelivered P (Ok A.Kept) = Unit {0}
IfDelivered P (Ok A.Repeat) = Unit {0}
IfDelivered P (Ok (A.Delivered n t)) = P n t
IfDelivered P (Ok A.Opened) = Unit {0}
IfDelivered P (Ok A.Already) = Unit {0}
IfDelivered P (Ok (A.Closed reason)) = Unit {0}
IfDelivered P (Ok A.Acknowledged) = Unit {0}
IfDelivered P (Ok (A.Sending t n)) = Unit {0}
IfDelivered P (Ok A.Done) = Unit {0}

pub if-delivered : (P Q : ℕ → TransactionNumber → Type 0) → ((n : ℕ) (t : TransactionNumber) → P n t → Q n t) → (a : Result Answer Refusal) → IfDelivered P a → IfDelivered Q a
if-delivered P Q f (Err r) h = tt
if-delivered P Q f (Ok A.AcknowledgeAgain) h = tt
if-delivered P Q f (Ok A.Kept) h = tt
if-delivered P Q f (Ok A.Repeat) h = tt
if-delivered P Q f (Ok (A.Delivered n t)) h = f n t h
if-delivered P Q f (Ok A.Opened) h = tt
if-delivered P Q f (Ok A.Already) h = tt
if-delivered P Q f (Ok (A.Closed reason)) h = tt
if-delivered P Q f (Ok A.Acknowledged) h = tt
if-delivered P Q f (Ok (A.Sending t n)) h = tt
if-delivered P Q f (Ok A.Done) h = tt

-- no delivery
abbrev pub Quiet : Result Answer Refusal → Type 0
Quiet a = IfDelivered (λ n t. ⊥) a

module _ (x : OneLink) (t : TransactionNumber) (header : SegmentHeader) (d : List ℕ) where
  -- the half-received message that a new segment k is of
  pub data Origin (h : HalfMessage) (k : ℕ) : Type 0 where
    held : x.link.half ≡ Some h → Origin h k
    begins : (n c : ℕ) → h ≡ begun t n c → k ≡ 0 → 1 ≤ n → n ≤ 1469 → ((g : HalfMessage) → x.link.half ≡ Some g → g.number ≢ t) → Origin h k

  pub record New (h : HalfMessage) (k : ℕ) : Type 0 where
    pub origin : Origin h k
    pub number : h.number ≡ t
    pub other : is_last x.link.last t ≡ false
    pub missing : is_marked h.marks k ≡ false
    pub inside : k ≤ seg_n h.length
    pub right : length d ≡ segment_length h.length k
    pub this : header ≡ header_at h.length h.check k

  pub data View (r : Result Answer Refusal × OneLink) : Type 0 where
    as_it_was : (a : Result Answer Refusal) → Quiet a → r ≡ (a, x) → View r
    new : (h : HalfMessage) (k : ℕ) → New h k → r ≡ entered x h k d → View r

  module _ (fits : Fits header (length d)) (other : is_last x.link.last t ≡ false) where
    view-offered : (h : HalfMessage) → x.link.half ≡ Some h → eqb h.number.0 t.0 ≡ true → (k : ℕ) → header ≡ header_at h.length h.check k
        → View (offered x h k d)
    unfolding offered
    view-offered h e en k this =
        cases (leb k (seg_n h.length) && eqb (length d) (segment_length h.length k))
        (λ c. let p = both_hold {a = leb k (seg_n h.length)} {b = eqb (length d) (segment_length h.length k)} c in
        let q : h.number.0 ≡ t.0 = eqb-true h.number.0 t.0 en in
        rw c (cases (is_marked h.marks k)
        (λ u. rw u (cases (same (piece segment_place h.length x.part k) d)
        (λ v. rw v (as_it_was _ tt refl)) (λ v. rw v (as_it_was _ tt refl))))
        (λ u. rw u (new h k (record {
          origin = held e;
          number = λ i. record { 0 = q i };
          other = other;
          missing = u;
          inside = leb-true k (seg_n h.length) p.0;
          right = eqb-true (length d) (segment_length h.length k) p.1;
          this = this;
        }) refl))))
        (λ c. rw c (as_it_was (Err R.Mismatch) tt refl))

    view-begins : (n c : ℕ) → header ≡ Start n c → ((g : HalfMessage) → x.link.half ≡ Some g → g.number ≢ t) → View (entered x (begun t n c) 0 d)
    view-begins n c this none =
        let w : Fits (Start n c) (length d) = rw this at fits in
        new (begun t n c) 0
        (record { origin = begins n c refl refl w.0 w.1 none; number = refl; other = other; missing = none-marked 0; inside = omega arith; right = omega (arith, w.2); this = this })
        refl

    view-half : (o : Option HalfMessage) → x.link.half ≡ o → (g : SegmentHeader) → header ≡ g → View (on_half x o t g d)
    view-half None e (Start n c) q = view-begins n c q (λ g u. let z : ◌≡◌ {A = ℕ} 0 1 = cc in absurd (omega arith))
    view-half None e (Continuation k) q = as_it_was (Err R.NotBegun) tt refl
    view-half (Some h) e (Start n c) q =
        cases (eqb h.number.0 t.0)
        (λ en. rw en (cases (eqb h.length n && eqb h.check c)
        (λ u. let p = both_hold {a = eqb h.length n} {b = eqb h.check c} u in
        rw u (view-offered h e en 0 (q ∙ sym (ap₂ Start (eqb-true h.length n p.0) (eqb-true h.check c p.1)))))
        (λ u. rw u (as_it_was (Err R.Mismatch) tt refl))))
        (λ en. rw en (view-begins n c q (λ g u v. let z : h ≡ g = cc in eqb-false h.number.0 t.0 en (ap (λ (j : HalfMessage). j.number.0) z ∙ ap (λ (j : TransactionNumber). j.0) v))))
    view-half (Some h) e (Continuation k) q =
        let w : Fits (Continuation k) (length d) = rw q at fits in
        cases (eqb h.number.0 t.0)
        (λ en. rw en (view-offered h e en k (q ∙ continuation-at h.length h.check k w.0)))
        (λ en. rw en (as_it_was (Err R.NotBegun) tt refl))

  pub view : Fits header (length d) → View (segment_step x t header d)
  unfolding segment_step
  view fits =
      cases (is_last x.link.last t) (λ e. rw e (as_it_was (Ok A.AcknowledgeAgain) tt refl)) (λ e. rw e (view-half fits e x.link.half refl header refl))
