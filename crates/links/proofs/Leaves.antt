-- What each answer of the receiving call leaves of its link (`specs/Tables.antt`).
use Prim.Native.Nat.{ℕ, ◌-◌}
use Rattle.links.specs.declared.Answer.{Answer}
use Rattle.links.specs.declared.Refusal.{Refusal}
use Rattle.pb_adv.specs.declared.Frame.{Frame}
use Rattle.pb_adv.specs.declared.FrameRefusal.{FrameRefusal}
use Rattle.std.specs.Prelude.{Option, Some, None, Result, Err}
use mathlib.Core.Bool.{true, false, ◌&&◌, cond, false≢true}
use mathlib.Core.List.{List}
use mathlib.Core.Path.{◌≡◌, refl, sym, ap}
use lib.Dec.{leb, eqb}
use lib.ListN.{length, take}
use borrow.Author.Tests.{eqb-true}
use Rattle.octets.specs.Parts.{part, write, same}
use Rattle.octets.specs.Cut.{piece}
use Rattle.octets.proofs.Tests.{cases, both_hold}
use Rattle.fcs.specs.Fcs.{check_octet}
use Rattle.transactions.specs.Numbers.{number_after}
use Rattle.transactions.specs.Segments.{seg_n, segment_place, segment_length}
use Rattle.pb_adv.specs.Frame.{link_id, number_of, kind_of, high_bits}
use Rattle.pb_adv.specs.Tables.{length_in}
use Rattle.pb_adv.specs.declared.SegmentHeader.{SegmentHeader}
use Rattle.pb_adv.specs.declared.SegmentHeader.TheVariants.{Start, Continuation}
use Rattle.pb_adv.proofs.Tables.{IsFrame, start, acknowledgement, continuation, opens, acks, closes}
use Rattle.links.specs.Marks.{is_marked, with_mark, all_marked}
use Rattle.links.specs.Links.{peer, sends, is_last, blank, with_state, with_sending}
use Rattle.links.specs.Good.{good_as}
use Rattle.links.specs.Bad.{blank_record}
use Rattle.links.specs.Segments.{OneLink, begun, entered, offered, on_half, segment_step}
use Rattle.links.specs.Station.{set_link, acknowledgement_step, ack_step, frame_step, open_step}
use Rattle.links.specs.Tables.{index_in, octets_in, check_in, message_of, opened_record, leaves_by, leaves}
use Rattle.links.specs.declared.Side.{Side}
use Rattle.links.specs.declared.Side.TheVariants.{Provisioner, Device}
use Rattle.links.specs.declared.LinkState.{LinkState}
use Rattle.links.specs.declared.LinkState.TheVariants as S
use Rattle.links.specs.declared.HalfMessage.{HalfMessage}
use Rattle.links.specs.declared.Refusal.TheVariants as R
use Rattle.links.proofs.Bad.{blank-said}
use Rattle.links.proofs.Opens.{Opens, refuses, finds, begins, openings}

module _ (side : Side) (x : OneLink) where
  -- ---- a segment

  entered-leaves : (id : ℕ) (h : HalfMessage) (k : ℕ) (d : List ℕ) → (entered x h k d).1 ≡ leaves_by side x id h k d (entered x h k d).0
  unfolding entered
  entered-leaves id h k d =
      cases (all_marked (seg_n h.length) (with_mark h.marks k))
      (λ e. rw e (cases (eqb (check_octet (take h.length (write x.part (segment_place k) d))) h.check) (λ c. rw c) (λ c. rw c)))
      (λ e. rw e)

  offered-leaves : (id : ℕ) (h : HalfMessage) (k : ℕ) (d : List ℕ) → (offered x h k d).1 ≡ leaves_by side x id h k d (offered x h k d).0
  unfolding offered
  offered-leaves id h k d =
      cases (leb k (seg_n h.length) && eqb (length d) (segment_length h.length k))
      (λ e. rw e (cases (is_marked h.marks k)
      (λ u. rw u (cases (same (piece segment_place h.length x.part k) d) (λ v. rw v) (λ v. rw v)))
      (λ u. rw u (entered-leaves id h k d))))
      (λ e. rw e)

  module _ (f : List ℕ) where
    -- by what is half-received
    abbrev leaves_at : Option HalfMessage → Result Answer Refusal → OneLink
    leaves_at half a = leaves_by side x (link_id f) (message_of half f) (index_in f) (octets_in f) a

    start-leaves : kind_of f ≡ 0 → (half : Option HalfMessage)
        → (on_half x half (number_of f) (Start (length_in f) (check_in f)) (part f 9 (length f - 9))).1
        ≡ leaves_at half (on_half x half (number_of f) (Start (length_in f) (check_in f)) (part f 9 (length f - 9))).0
    start-leaves k None = rw k (entered-leaves (link_id f) (begun (number_of f) (length_in f) (check_in f)) 0 (part f 9 (length f - 9)))
    start-leaves k (Some h) =
        cases (eqb h.number.0 (number_of f).0)
        (λ e. rw (e, k) (cases (eqb h.length (length_in f) && eqb h.check (check_in f)) (λ u. rw u (offered-leaves (link_id f) h 0 (part f 9 (length f - 9)))) (λ u. rw u)))
        (λ e. rw (e, k) (entered-leaves (link_id f) (begun (number_of f) (length_in f) (check_in f)) 0 (part f 9 (length f - 9))))

    continuation-leaves : kind_of f ≡ 2 → (half : Option HalfMessage)
        → (on_half x half (number_of f) (Continuation (high_bits f)) (part f 6 (length f - 6))).1
        ≡ leaves_at half (on_half x half (number_of f) (Continuation (high_bits f)) (part f 6 (length f - 6))).0
    continuation-leaves k None = refl
    continuation-leaves k (Some h) =
        cases (eqb h.number.0 (number_of f).0) (λ e. rw (e, k) (offered-leaves (link_id f) h (high_bits f) (part f 6 (length f - 6)))) (λ e. rw e)

    segment-leaves : (header : SegmentHeader) (d : List ℕ)
        → (on_half x x.link.half (number_of f) header d).1 ≡ leaves side x f (on_half x x.link.half (number_of f) header d).0
        → (segment_step x (number_of f) header d).1 ≡ leaves side x f (segment_step x (number_of f) header d).0
    unfolding segment_step
    segment-leaves header d h = cases (is_last x.link.last (number_of f)) (λ l. rw l) (λ l. rw l h)

    open-segment : (header : SegmentHeader) (d : List ℕ)
        → (on_half x x.link.half (number_of f) header d).1 ≡ leaves side x f (on_half x x.link.half (number_of f) header d).0
        → (cond (sends (peer side) (number_of f)) (segment_step x (number_of f) header d) (Err R.WrongDirection, x)).1
        ≡ leaves side x f (cond (sends (peer side) (number_of f)) (segment_step x (number_of f) header d) (Err R.WrongDirection, x)).0
    open-segment header d h = cases (sends (peer side) (number_of f)) (λ q. rw q (segment-leaves header d h)) (λ q. rw q)

    -- ---- a frame of another kind

    acknowledged-leaves : (acknowledgement_step x (number_of f)).1 ≡ leaves side x f (acknowledgement_step x (number_of f)).0
    unfolding acknowledgement_step
    acknowledged-leaves =
        cases (x.link.outstanding && eqb x.link.next.0 (number_of f).0)
        (λ e. let q : (number_of f).0 ≡ x.link.next.0 = sym (eqb-true _ _ (both_hold {a = x.link.outstanding} {b = eqb x.link.next.0 (number_of f).0} e).1) in
        rw e (λ i. set_link x (with_sending x.link (number_after (record { 0 = q i })) false)))
        (λ e. rw e)

    -- a Close
    closed-leaves : set_link x (blank side) ≡ set_link x (blank_record side S.Free 0)
    closed-leaves = ap (set_link x) (blank-said side S.Free 0)

    ack-leaves : (end : Side) → (ack_step end x).1 ≡ leaves side x f (ack_step end x).0
    ack-leaves Provisioner = refl
    ack-leaves Device = refl

    -- a device's end has no record that is opening
    opened-leaves : (end : Side) → good_as end S.Opening x.link ≡ true → with_state x.link S.Open ≡ opened_record end x.link (link_id f)
    opened-leaves Provisioner g = refl
    opened-leaves Device g = absurd (false≢true g)

    pub frame-leaves : (state : LinkState) → good_as side state x.link ≡ true → (p : Result Frame FrameRefusal) → IsFrame f p
        → (frame_step side x state f p).1 ≡ leaves side x f (frame_step side x state f p).0
    unfolding frame_step
    frame-leaves S.Free g p r = refl
    frame-leaves S.Opening g p (start k e) = refl
    frame-leaves S.Opening g p (acknowledgement k) = refl
    frame-leaves S.Opening g p (continuation k e) = refl
    frame-leaves S.Opening g p (opens k e) = refl
    frame-leaves S.Opening g p (acks k e) = ap (set_link x) (opened-leaves side g)
    frame-leaves S.Opening g p (closes k e) = closed-leaves
    frame-leaves S.Open g p (start k e) = open-segment _ _ (start-leaves k x.link.half)
    frame-leaves S.Open g p (acknowledgement k) = cases (sends side (number_of f)) (λ q. rw q acknowledged-leaves) (λ q. rw q)
    frame-leaves S.Open g p (continuation k e) = open-segment _ _ (continuation-leaves k x.link.half)
    frame-leaves S.Open g p (opens k e) = refl
    frame-leaves S.Open g p (acks k e) = ack-leaves side
    frame-leaves S.Open g p (closes k e) = closed-leaves

-- an Open at a device's link
pub open-leaves : (own : List ℕ) (x : OneLink) (f : List ℕ) → (open_step own x f (link_id f) 6).1 ≡ leaves Device x f (open_step own x f (link_id f) 6).0
open-leaves own x f = of (openings own x f (link_id f) 6)
  where
    of : {q : Result Answer Refusal × OneLink} → Opens own x f (link_id f) 6 q → q.1 ≡ leaves Device x f q.0
    of (refuses r n e) = rw (e, n)
    of (finds e) = rw e
    of (begins u n e) = rw e (ap (set_link x) (blank-said Device S.Open (link_id f)))
