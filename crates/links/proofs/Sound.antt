-- What any frame does at a link of its Link ID: the half-received message stays, is dropped, or takes a new segment.
use Prim.Native.Nat.{ℕ}
use Rattle.links.specs.declared.Answer.{Answer}
use Rattle.links.specs.declared.Refusal.{Refusal}
use Rattle.pb_adv.specs.declared.Frame.{Frame}
use Rattle.pb_adv.specs.declared.FrameRefusal.{FrameRefusal}
use Rattle.std.specs.Prelude.{None, Result, Ok, Err}
use mathlib.Core.Bool.{true, ◌&&◌}
use mathlib.Core.List.{List}
use mathlib.Core.Path.{◌≡◌, refl}
use lib.Dec.{eqb}
use lib.ListN.{length, take}
use borrow.Author.Tests.{eqb-true}
use Rattle.octets.specs.Numbers.{Octets}
use Rattle.octets.specs.Parts.{part}
use Rattle.octets.proofs.Tests.{cases}
use Rattle.fcs.specs.Fcs.{check_octet}
use Rattle.transactions.specs.Segments.{seg_n}
use Rattle.pb_adv.specs.Frame.{parsed}
use Rattle.pb_adv.specs.Promises.{Fits}
use Rattle.pb_adv.specs.declared.Segment.{Segment}
use Rattle.pb_adv.specs.declared.Frame.TheVariants as P
use Rattle.pb_adv.proofs.Promises.{segments-are-encodings}
use Rattle.links.specs.Marks.{with_mark, all_marked}
use Rattle.links.specs.Links.{peer, sends}
use Rattle.links.specs.Segments.{OneLink, marked, part_with, whole, wrong, kept, entered, segment_step}
use Rattle.links.specs.Station.{acknowledgement_step, ack_step, frame_refusal, frame_step}
use Rattle.links.specs.declared.Side.{Side}
use Rattle.links.specs.declared.Side.TheVariants.{Provisioner, Device}
use Rattle.links.specs.declared.LinkState.{LinkState}
use Rattle.links.specs.declared.LinkState.TheVariants as S
use Rattle.links.specs.declared.HalfMessage.{HalfMessage}
use Rattle.links.specs.declared.Link.{Link}
use Rattle.links.specs.declared.Refusal.TheVariants as R
use Rattle.links.specs.declared.Answer.TheVariants as A
use Rattle.links.proofs.View.{Quiet, New, View, as_it_was, new, view}

-- what is half-received stays as it was, or is dropped
pub data Kept (l m : Link) : Type 0 where
  stays : (l.state ≡ S.Open → m.state ≡ S.Open) → m.id ≡ l.id → m.half ≡ l.half → Kept l m
  drops : m.half ≡ None → Kept l m

pub kept_same : (l : Link) → Kept l l
kept_same l = stays (λ e. e) refl refl

-- the three ends of a new segment
module _ (x : OneLink) (h : HalfMessage) (k : ℕ) (d : List ℕ) where
  pub data Ends (r : Result Answer Refusal × OneLink) : Type 0 where
    is_whole : all_marked (seg_n h.length) (with_mark h.marks k) ≡ true → check_octet (take h.length (part_with x h k d)) ≡ h.check
        → r ≡ whole x.link (marked h k) (part_with x h k d) → Ends r
    is_wrong : r ≡ wrong x.link (marked h k) (part_with x h k d) → Ends r
    is_kept : r ≡ kept x.link (marked h k) (part_with x h k d) → Ends r

  pub ends : Ends (entered x h k d)
  unfolding entered
  ends =
      cases (all_marked (seg_n h.length) (with_mark h.marks k))
      (λ e. cases (eqb (check_octet (take h.length (part_with x h k d))) h.check)
      (λ c. rw (e, c) (is_whole e (eqb-true _ _ c) refl)) (λ c. rw (e, c) (is_wrong refl)))
      (λ e. rw e (is_kept refl))

-- ---- a frame at a link

module _ (x : OneLink) (f : List ℕ) (o : Octets f) where
  pub data Does (p : Result Frame FrameRefusal) (r : Result Answer Refusal × OneLink) : Type 0 where
    keeps : Quiet r.0 → r.1.part ≡ x.part → Kept x.link r.1.link → Does p r
    enters : (s : Segment) → p ≡ Ok (P.Segment s) → x.link.state ≡ S.Open → (h : HalfMessage) (k : ℕ)
        → New x s.number s.header (part f s.from s.count) h k → r ≡ entered x h k (part f s.from s.count) → Does p r

  quiet : {p : Result Frame FrameRefusal} (a : Result Answer Refusal) → Quiet a → Does p (a, x)
  quiet a q = keeps q refl (kept_same x.link)

  of-segment : x.link.state ≡ S.Open → (s : Segment) → parsed f ≡ Ok (P.Segment s)
      → Does (Ok (P.Segment s)) (segment_step x s.number s.header (part f s.from s.count))
  of-segment opened s e = of (view x s.number s.header (part f s.from s.count) fits)
    where
      fits : Fits s.header (length (part f s.from s.count))
      fits = let n = segments-are-encodings f o s e in rw n.long n.fits

      of : {r : Result Answer Refusal × OneLink} → View x s.number s.header (part f s.from s.count) r → Does (Ok (P.Segment s)) r
      of (as_it_was a q e) = rw e (quiet a q)
      of (new h k n e) = enters s refl opened h k n e

  of-ack : (side : Side) {p : Result Frame FrameRefusal} → Does p (ack_step side x)
  of-ack Provisioner = quiet (Ok A.Already) tt
  of-ack Device = quiet (Err R.WrongDirection) tt

  does-as : (side : Side) (state : LinkState) → x.link.state ≡ state → (p : Result Frame FrameRefusal) → parsed f ≡ p → Does p (frame_step side x state f p)
  unfolding frame_step acknowledgement_step
  does-as side S.Free z p e = quiet (Err R.UnknownLink) tt
  does-as side S.Opening z (Ok (P.Segment s)) e = quiet (Err R.NotOpen) tt
  does-as side S.Opening z (Ok (P.Acknowledgement id t)) e = quiet (Err R.NotOpen) tt
  does-as side S.Opening z (Ok (P.Open id uuid)) e = quiet (Err R.NotOpen) tt
  does-as side S.Opening z (Ok (P.Ack id)) e = keeps tt refl (stays (λ _. refl) refl refl)
  does-as side S.Opening z (Ok (P.Close id reason)) e = keeps tt refl (drops refl)
  does-as side S.Opening z (Err r) e = quiet (Err (frame_refusal r)) tt
  does-as side S.Open z (Ok (P.Segment s)) e =
      cases (sends (peer side) s.number) (λ g. rw g (of-segment z s e)) (λ g. rw g (quiet (Err R.WrongDirection) tt))
  does-as side S.Open z (Ok (P.Acknowledgement id t)) e =
      cases (sends side t)
      (λ g. rw g (cases (x.link.outstanding && eqb x.link.next.0 t.0)
      (λ g. rw g (keeps tt refl (stays (λ q. q) refl refl))) (λ g. rw g (quiet (Err R.NotOutstanding) tt))))
      (λ g. rw g (quiet (Err R.WrongDirection) tt))
  does-as side S.Open z (Ok (P.Open id uuid)) e = quiet (Err R.WrongDirection) tt
  does-as side S.Open z (Ok (P.Ack id)) e = of-ack side
  does-as side S.Open z (Ok (P.Close id reason)) e = keeps tt refl (drops refl)
  does-as side S.Open z (Err r) e = quiet (Err (frame_refusal r)) tt

  pub frame-does : (side : Side) → Does (parsed f) (frame_step side x x.link.state f (parsed f))
  frame-does side = does-as side x.link.state refl (parsed f) refl
