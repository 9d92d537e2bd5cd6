-- A frame leaves a good link good.
use Prim.Native.Nat.{ℕ, ◌/◌, ◌≤◌}
use Rattle.pb_adv.specs.declared.Frame.{Frame}
use Rattle.pb_adv.specs.declared.FrameRefusal.{FrameRefusal}
use Rattle.std.specs.Prelude.{Option, Some, None, Result, Ok, Err}
use native.Mathlib.Omega.{arith}
use mathlib.Core.Bool.{true, false, ◌&&◌, not, false≢true}
use mathlib.Core.List.{List}
use mathlib.Core.Logic.{◌≢◌}
use mathlib.Core.Path.{◌≡◌, refl, sym, ap, ◌∙◌, subst}
use lib.Dec.{eqb}
use lib.ListN.{length, take}
use borrow.Author.Tests.{eqb-true, eqb-false, eq-eqb, le-leb, leb-true, not-true}
use Rattle.octets.specs.Numbers.{Octets}
use Rattle.octets.specs.Parts.{part, write}
use Rattle.octets.proofs.Parts.{write-length}
use Rattle.octets.proofs.Cut.{place_up, piece-fits}
use Rattle.octets.proofs.Tests.{cases, both_hold, holds-both}
use Rattle.fcs.specs.Fcs.{check_octet}
use Rattle.transactions.specs.Numbers.{number_after}
use Rattle.transactions.specs.Segments.{seg_n, segment_place, segment_length}
use Rattle.pb_adv.specs.Promises.{Fits}
use Rattle.pb_adv.specs.Frame.{parsed}
use Rattle.transactions.proofs.Laws.{segment-begins}
use Rattle.pb_adv.proofs.Promises.{segments-are-encodings}
use Rattle.transactions.specs.declared.TransactionNumber.{TransactionNumber}
use Rattle.pb_adv.specs.declared.SegmentHeader.{SegmentHeader}
use Rattle.pb_adv.specs.declared.Frame.TheVariants as P
use Rattle.links.specs.Marks.{is_marked, with_mark, all_marked, none_above}
use Rattle.links.specs.Links.{peer, sends, is_last, blank, with_state, with_sending, in_use}
use Rattle.links.specs.Good.{good_message, good_half, good_last, is_nothing, is_empty, good_as, good_link}
use Rattle.links.specs.Segments.{OneLink, entered, marked, segment_step}
use Rattle.links.specs.Station.{set_link, acknowledgement_step, ack_step, frame_step}
use Rattle.links.specs.declared.Side.{Side}
use Rattle.links.specs.declared.Side.TheVariants.{Provisioner, Device}
use Rattle.links.specs.declared.LinkState.{LinkState}
use Rattle.links.specs.declared.LinkState.TheVariants as S
use Rattle.links.specs.declared.HalfMessage.{HalfMessage}
use Rattle.links.specs.declared.Link.{Link}
use Rattle.links.proofs.Marks.{marked-same, marked_other, none-above-zero, none-above-mark}
use Rattle.links.proofs.Lens.{InPlace, same_use, unused}
use Rattle.links.proofs.View.{View, as_it_was, new, Origin, held, begins, view}

-- what the test of a half-received message says, by name
pub record GoodMessage (side : Side) (last : Option TransactionNumber) (h : HalfMessage) : Type 0 where
  pub number : sends (peer side) h.number ≡ true
  pub some-octets : 1 ≤ h.length
  pub few-octets : h.length ≤ 1469
  pub other : is_last last h.number ≡ false
  pub first : is_marked h.marks 0 ≡ true
  pub missing : all_marked (seg_n h.length) h.marks ≡ false
  pub above : none_above (seg_n h.length) h.marks ≡ true

pub message-in : (side : Side) (last : Option TransactionNumber) (h : HalfMessage) → GoodMessage side last h → good_message side last h ≡ true
unfolding good_message
message-in side last h g =
    rw (g.number, le-leb 1 h.length g.some-octets, le-leb h.length 1469 g.few-octets, g.other, g.first, g.missing, g.above)

pub message-out : (side : Side) (last : Option TransactionNumber) (h : HalfMessage) → good_message side last h ≡ true → GoodMessage side last h
unfolding good_message
message-out side last h e =
    let p = both_hold e in
    let q = both_hold p.1 in
    let l = both_hold q.0 in
    let o = both_hold q.1 in
    let m = both_hold o.1 in
    let a = both_hold m.1 in
    record {
      number = p.0;
      some-octets = leb-true 1 h.length l.0;
      few-octets = leb-true h.length 1469 l.1;
      other = not-true (is_last last h.number) o.0;
      first = m.0;
      missing = not-true (all_marked (seg_n h.length) h.marks) a.0;
      above = a.1;
    }

-- the rest of the record is as it was, and what may have changed is as it should be
pub record Keeps (side : Side) (x y : OneLink) : Type 0 where
  pub state : y.link.state ≡ x.link.state
  pub id : y.link.id ≡ x.link.id
  pub next : y.link.next ≡ x.link.next
  pub outstanding : y.link.outstanding ≡ x.link.outstanding
  pub last : good_last side y.link.last ≡ true
  pub half : good_half side y.link.last y.link.half ≡ true
  pub part : length y.part ≡ length x.part

-- a half-received message, good but for its marks, which may be none
record Receives (side : Side) (last : Option TransactionNumber) (h : HalfMessage) (k : ℕ) : Type 0 where
  number : sends (peer side) h.number ≡ true
  some-octets : 1 ≤ h.length
  few-octets : h.length ≤ 1469
  other : is_last last h.number ≡ false
  first : k ≢ 0 → is_marked h.marks 0 ≡ true
  above : none_above (seg_n h.length) h.marks ≡ true

module _ (side : Side) (x : OneLink) (room : length x.part ≡ 1469) (last_good : good_last side x.link.last ≡ true) where
  entered-keeps : (h : HalfMessage) (k : ℕ) (d : List ℕ) → Receives side x.link.last h k → k ≤ seg_n h.length
      → length d ≡ segment_length h.length k → Keeps side x (entered x h k d).1
  unfolding entered
  entered-keeps h k d g inside right =
      let begins : segment_place k ≤ h.length = omega (arith, segment-begins h.length k g.some-octets inside) in
      let fits = piece-fits segment_place refl (place_up 20 23) h.length x.part k d (omega (arith, g.few-octets)) begins right in
      let l = write-length x.part (segment_place k) d fits in
      cases (all_marked (seg_n h.length) (with_mark h.marks k))
      (λ e. cases (eqb (check_octet (take h.length (write x.part (segment_place k) d))) h.check)
      (λ c. rw (e, c) (record { state = refl; id = refl; next = refl; outstanding = refl; last = g.number; half = refl; part = l }))
      (λ c. rw (e, c) (record { state = refl; id = refl; next = refl; outstanding = refl; last = last_good; half = refl; part = l })))
      (λ e. rw e (record {
        state = refl;
        id = refl;
        next = refl;
        outstanding = refl;
        last = last_good;
        half = message-in side x.link.last (marked h k) (record {
          number = g.number;
          some-octets = g.some-octets;
          few-octets = g.few-octets;
          other = g.other;
          first = cases (eqb k 0)
              (λ z. let q : k ≡ 0 = eqb-true k 0 z in rw q (marked-same h.marks 0))
              (λ z. marked_other h.marks k 0 (eqb-false k 0 z) ∙ g.first (eqb-false k 0 z));
          missing = e;
          above = none-above-mark (seg_n h.length) h.marks k inside g.above;
        });
        part = l;
      }))

  pub step_keeps : good_half side x.link.last x.link.half ≡ true → (t : TransactionNumber) → sends (peer side) t ≡ true
      → (header : SegmentHeader) (d : List ℕ) → Fits header (length d) → Keeps side x (segment_step x t header d).1
  step_keeps half_good t sent header d v = at (view x t header d v)
    where
      receives : (h : HalfMessage) (k : ℕ) → is_last x.link.last t ≡ false → Origin x t header d h k → Receives side x.link.last h k
      receives h k o (held e) =
          let g = message-out side x.link.last h (rw e at half_good) in
          record {
            number = g.number;
            some-octets = g.some-octets;
            few-octets = g.few-octets;
            other = g.other;
            first = λ _. g.first;
            above = g.above;
          }
      receives h k o (begins n c e z some few none) =
          rw e (record {
            number = sent;
            some-octets = some;
            few-octets = few;
            other = o;
            first = λ y. absurd (y z);
            above = none-above-zero (seg_n n);
          })

      at : View x t header d (segment_step x t header d) → Keeps side x (segment_step x t header d).1
      at (as_it_was a q e) = rw e (record { state = refl; id = refl; next = refl; outstanding = refl; last = last_good; half = half_good; part = refl })
      at (new h k n e) = rw e (entered-keeps h k d (receives h k n.other n.origin) n.inside n.right)

-- ---- the record of an open link

pub open-out : (side : Side) (l : Link) → good_as side S.Open l ≡ true
    → (sends side l.next ≡ true) × (good_last side l.last ≡ true) × (good_half side l.last l.half ≡ true)
open-out side l h =
    let p = both_hold {a = sends side l.next} {b = good_last side l.last && good_half side l.last l.half} h in
    let q = both_hold {a = good_last side l.last} {b = good_half side l.last l.half} p.1 in
    (p.0, q.0, q.1)

pub open_in : (side : Side) (l : Link) → l.state ≡ S.Open → sends side l.next ≡ true → good_last side l.last ≡ true
    → good_half side l.last l.half ≡ true → good_link side l ≡ true
open_in side l e a b c = rw e (holds-both a (holds-both b c))

-- a good record, by its state
pub good-as : (side : Side) (l : Link) {state : LinkState} → l.state ≡ state → good_link side l ≡ true → good_as side state l ≡ true
good-as side l e h = subst (λ (s : LinkState). good_as side s l ≡ true) e h

-- ---- a frame of any kind

-- the link is good, and its record may stand in place of what was
pub record FrameKeeps (side : Side) (x y : OneLink) : Type 0 where
  pub link : good_link side y.link ≡ true
  pub part : length y.part ≡ 1469
  pub in_place : InPlace y.link x.link

pub blank-good : (side : Side) → good_link side (blank side) ≡ true
blank-good Provisioner = refl
blank-good Device = refl

-- a link that opens
opened-good : (side : Side) (l : Link) → good_as side S.Opening l ≡ true → good_link side (with_state l S.Open) ≡ true
opened-good Provisioner l h =
    let p = both_hold {a = eqb l.next.0 0} {b = not l.outstanding && (is_nothing l.last && is_empty l.half)} h in
    let q = both_hold {a = not l.outstanding} {b = is_nothing l.last && is_empty l.half} p.1 in
    let r = both_hold {a = is_nothing l.last} {b = is_empty l.half} q.1 in
    let e : l.next.0 / 128 ≡ 0 = omega (arith, eqb-true l.next.0 0 p.0) in
    open_in Provisioner (with_state l S.Open) refl (eq-eqb (l.next.0 / 128) 0 e) (nothing-good l.last r.0) (empty-good l.last l.half r.1)
  where
    nothing-good : (last : Option TransactionNumber) → is_nothing last ≡ true → good_last Provisioner last ≡ true
    nothing-good None e = refl
    nothing-good (Some t) e = absurd (false≢true e)

    empty-good : (last : Option TransactionNumber) (half : Option HalfMessage) → is_empty half ≡ true → good_half Provisioner last half ≡ true
    empty-good last None e = refl
    empty-good last (Some h) e = absurd (false≢true e)
opened-good Device l h = absurd (false≢true h)

after-sent : (side : Side) (t : TransactionNumber) → sends side t ≡ true → sends side (number_after t) ≡ true
after-sent side t h =
    let e : (number_after t).0 / 128 ≡ t.0 / 128 = omega arith in
    rw e h

ack-same : (side : Side) (x : OneLink) → (ack_step side x).1 ≡ x
ack-same Provisioner x = refl
ack-same Device x = refl

module _ (side : Side) (x : OneLink) (link_good : good_link side x.link ≡ true) (room : length x.part ≡ 1469) where
  unchanged : FrameKeeps side x x
  unchanged = record { link = link_good; part = room; in_place = same_use refl refl }

  freed : FrameKeeps side x (set_link x (blank side))
  freed = record { link = blank-good side; part = room; in_place = unused refl }

  module _ (opened : x.link.state ≡ S.Open) where
    parts : (sends side x.link.next ≡ true) × (good_last side x.link.last ≡ true) × (good_half side x.link.last x.link.half ≡ true)
    parts = open-out side x.link (good-as side x.link opened link_good)

    pub keeps-frame : (y : OneLink) → Keeps side x y → FrameKeeps side x y
    keeps-frame y k =
        record {
          link = open_in side y.link (k.state ∙ opened) (rw k.next parts.0) k.last k.half;
          part = k.part ∙ room;
          in_place = same_use (ap in_use k.state) k.id;
        }

    segment-keeps : (t : TransactionNumber) (header : SegmentHeader) (d : List ℕ) → Fits header (length d) → sends (peer side) t ≡ true
        → FrameKeeps side x (segment_step x t header d).1
    segment-keeps t header d v sent =
        keeps-frame (segment_step x t header d).1 (step_keeps side x room parts.1 parts.2 t sent header d v)

    acknowledgement-keeps : (t : TransactionNumber) → sends side t ≡ true → FrameKeeps side x (acknowledgement_step x t).1
    unfolding acknowledgement_step
    acknowledgement-keeps t sent =
        cases (x.link.outstanding && eqb x.link.next.0 t.0)
        (λ e. rw e (record {
          link = open_in side (with_sending x.link (number_after t) false) opened (after-sent side t sent) parts.1 parts.2;
          part = room;
          in_place = same_use refl refl;
        }))
        (λ e. rw e unchanged)

  by_state : (state : LinkState) → x.link.state ≡ state → (f : List ℕ) → Octets f → (p : Result Frame FrameRefusal) → parsed f ≡ p → FrameKeeps side x (frame_step side x state f p).1
  unfolding frame_step
  by_state S.Free e f o p q = unchanged
  by_state S.Opening e f o (Ok (P.Segment s)) q = unchanged
  by_state S.Opening e f o (Ok (P.Acknowledgement id t)) q = unchanged
  by_state S.Opening e f o (Ok (P.Open id uuid)) q = unchanged
  by_state S.Opening e f o (Ok (P.Ack id)) q =
      record {
        link = opened-good side x.link (good-as side x.link e link_good);
        part = room;
        in_place = same_use (sym (ap in_use e)) refl;
      }
  by_state S.Opening e f o (Ok (P.Close id reason)) q = freed
  by_state S.Opening e f o (Err r) q = unchanged
  by_state S.Open e f o (Ok (P.Segment s)) q =
      let c = segments-are-encodings f o s q in
      cases (sends (peer side) s.number)
      (λ u. rw u (segment-keeps e s.number s.header (part f s.from s.count) (rw c.long c.fits) u))
      (λ u. rw u unchanged)
  by_state S.Open e f o (Ok (P.Acknowledgement id t)) q = cases (sends side t) (λ u. rw u (acknowledgement-keeps e t u)) (λ u. rw u unchanged)
  by_state S.Open e f o (Ok (P.Open id uuid)) q = unchanged
  by_state S.Open e f o (Ok (P.Ack id)) q = rw (ack-same side x) unchanged
  by_state S.Open e f o (Ok (P.Close id reason)) q = freed
  by_state S.Open e f o (Err r) q = unchanged

  pub frame-keeps : (f : List ℕ) → Octets f → (p : Result Frame FrameRefusal) → parsed f ≡ p → FrameKeeps side x (frame_step side x x.link.state f p).1
  frame-keeps f o p q = by_state x.link.state refl f o p q
