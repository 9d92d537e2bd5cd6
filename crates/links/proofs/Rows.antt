-- The rows of the receiving table from 4 on, for a frame at its link.
use Prim.Native.Nat.{ℕ, suc, ◌-◌, ◌/◌, ◌<◌}
use Rattle.pb_adv.specs.declared.Frame.{Frame}
use Rattle.pb_adv.specs.declared.FrameRefusal.{FrameRefusal}
use Rattle.std.specs.Prelude.{Option, Some, None, Result, Ok, Err}
use Rattle.transactions.specs.declared.TransactionNumber.{TransactionNumber}
use native.Mathlib.Omega.{arith}
use mathlib.Core.Bool.{true, false, ◌&&◌, ◌||◌, cond, not, false≢true}
use mathlib.Core.List.{List, [], ◌∷◌, ◌++◌}
use mathlib.Core.Option.{some}
use mathlib.Core.Path.{◌≡◌, refl, sym, ◌∙◌}
use lib.Dec.{leb, ltb, eqb}
use lib.ListN.{length, get_or, take}
use borrow.Author.Tests.{eq-eqb, ne_eqb, ltb-true, ltb-false}
use Rattle.octets.specs.Numbers.{Octets}
use Rattle.octets.specs.Parts.{part, write, same}
use Rattle.octets.specs.Cut.{piece}
use Rattle.octets.specs.Tables.{Row, refusal, reply, first_of}
use Rattle.octets.proofs.Tests.{cases}
use Rattle.fcs.specs.Fcs.{check_octet}
use Rattle.transactions.specs.Segments.{seg_n, segment_place, segment_length}
use Rattle.pb_adv.specs.Frame.{link_id, number_of, kind_of, high_bits}
use Rattle.pb_adv.specs.Tables.{is_kind, is_control, is_segment, length_in}
use Rattle.pb_adv.specs.declared.SegmentHeader.{SegmentHeader}
use Rattle.pb_adv.specs.declared.SegmentHeader.TheVariants.{Start, Continuation}
use Rattle.pb_adv.specs.declared.Frame.TheVariants as P
use Rattle.pb_adv.proofs.Tables.{IsFrame, start, acknowledgement, continuation, opens, acks, closes}
use Rattle.links.specs.Marks.{is_marked, with_mark, all_marked}
use Rattle.links.specs.Links.{peer, End, provisioner, device, side_of, sends, is_last, in_use, find_from, told}
use Rattle.links.specs.Good.{good_as, good_link, good}
use Rattle.links.specs.Segments.{OneLink, entered, offered, begun, on_half, segment_step}
use Rattle.links.specs.Station.{is_found, is_open, acknowledgement_step, ack_step, frame_step}
use Rattle.links.specs.Tables.{is_free, is_id_in_use, is_device_open, is_opening, not_open, wrong_direction, is_opener, is_unopened, not_outstanding, check_in, has_last_number, is_last_delivered, message_of, not_begun, is_unfit, other_octets, is_last_missing, other_check, mismatches, wrong_check, is_complete, is_repeat}
use Rattle.links.specs.declared.Side.{Side}
use Rattle.links.specs.declared.Side.TheVariants.{Provisioner, Device}
use Rattle.links.specs.declared.LinkState.{LinkState}
use Rattle.links.specs.declared.LinkState.TheVariants as S
use Rattle.links.specs.declared.HalfMessage.{HalfMessage}
use Rattle.links.specs.declared.Link.{Link}
use Rattle.links.specs.declared.Refusal.TheVariants as R
use Rattle.links.specs.declared.Answer.TheVariants as A
use Rattle.links.proofs.Marks.{none-marked}
use Rattle.links.proofs.Keep.{good-as}

-- ---- the halves of the numbers

lower-half : (n : ℕ) → eqb (n / 128) 0 ≡ not (ltb 127 n)
lower-half n = cases (ltb 127 n)
    (λ e. rw (e, ne_eqb (n / 128) 0 (omega (arith, ltb-true 127 n e))))
    (λ e. rw (e, eq-eqb (n / 128) 0 (omega (arith, ltb-false 127 n e))))

upper-half : (n : ℕ) → n < 256 → eqb (n / 128) 1 ≡ not (ltb n 128)
upper-half n h = cases (ltb n 128)
    (λ e. rw (e, ne_eqb (n / 128) 1 (omega (arith, ltb-true n 128 e))))
    (λ e. rw (e, eq-eqb (n / 128) 1 (omega (arith, ltb-false n 128 e))))

-- ---- the tests of the definitions, in the rows' words

pub use-free : (state : LinkState) → in_use state ≡ not (is_free state)
use-free S.Free = refl
use-free S.Opening = refl
use-free S.Open = refl

pub open-others : (state : LinkState) → is_open state ≡ not (is_free state || is_opening state)
open-others S.Free = refl
open-others S.Opening = refl
open-others S.Open = refl

pub found_from : (k : ℕ) (ls : List Link) (id : ℕ) → is_found (find_from k ls id) ≡ is_id_in_use ls id
unfolding find_from
found_from k [] id = refl
found_from k (l ∷ ls) id =
    rw (use-free l.state) (cases (not (is_free l.state) && eqb l.id id) (λ e. rw e) (λ e. rw e (found_from (suc k) ls id)))

last-number : (last : Option TransactionNumber) (f : List ℕ) → has_last_number last f ≡ is_last last (number_of f)
last-number None f = refl
last-number (Some t) f = refl

-- ---- the rows by parts

-- of a segment at its link, by what is half-received
abbrev pub segment_rows : OneLink → Option HalfMessage → List ℕ → List Row
segment_rows x half f =
    let h = message_of half f in
    reply "acknowledge again" [] (is_last_delivered x.link.last f)
    ∷ refusal 6 (not_begun half f)
    ∷ refusal 7 (mismatches x half h f)
    ∷ refusal 8 (wrong_check x h f)
    ∷ reply "delivered" (h.length ∷ h.number.0 ∷ []) (is_complete h f)
    ∷ reply "repeat" [] (is_repeat h f)
    ∷ reply "kept" [] (is_segment f)
    ∷ []

-- of a frame of another kind
abbrev pub other_rows : Side → LinkState → List ℕ → List Row
other_rows side state f =
    reply "acknowledged" [] (is_kind 1 f)
    ∷ reply "opened" [] (is_unopened side state && is_opener side f)
    ∷ reply "already" [] (is_opener side f)
    ∷ reply "closed" (get_or f 6 0 ∷ []) (is_control 2 f)
    ∷ []

-- of a frame at its link, by the link's state
abbrev pub link_rows : Side → OneLink → LinkState → List ℕ → List Row
link_rows side x state f =
    refusal 4 (not_open state f)
    ∷ refusal 5 (wrong_direction side f)
    ∷ refusal 12 (not_outstanding x.link f)
    ∷ (segment_rows x x.link.half f ++ other_rows side state f)

-- ---- a segment at its link

-- the rows from 8 on of segment k
abbrev entered_rows : OneLink → HalfMessage → ℕ → List ℕ → List Row → List Row
entered_rows x h k d rest =
    refusal 8 (is_last_missing h k && other_check x h k d)
    ∷ reply "delivered" (h.length ∷ h.number.0 ∷ []) (is_last_missing h k)
    ∷ reply "repeat" [] (is_marked h.marks k)
    ∷ reply "kept" [] true
    ∷ rest

module _ (x : OneLink) (h : HalfMessage) (k : ℕ) (d : List ℕ) (rest : List Row) where
  entered-row : is_marked h.marks k ≡ false → first_of (entered_rows x h k d rest) ≡ some (told (entered x h k d).0)
  unfolding entered
  entered-row missing =
      rw missing (cases (all_marked (seg_n h.length) (with_mark h.marks k))
      (λ e. rw e (cases (eqb (check_octet (take h.length (write x.part (segment_place k) d))) h.check) (λ c. rw c) (λ c. rw c)))
      (λ e. rw e))

  offered-row : first_of (refusal 7 (is_unfit h k d || other_octets x h k d) ∷ entered_rows x h k d rest) ≡ some (told (offered x h k d).0)
  unfolding offered
  offered-row =
      cases (leb k (seg_n h.length) && eqb (length d) (segment_length h.length k))
      (λ e. rw e (cases (is_marked h.marks k)
      (λ u. rw u (cases (same (piece segment_place h.length x.part k) d) (λ v. rw v) (λ v. rw v)))
      (λ u. let w = entered-row u in rw u (rw u at w))))
      (λ e. rw e)

module _ (x : OneLink) (f : List ℕ) (rest : List Row) (awaited : is_last x.link.last (number_of f) ≡ false) where
  start-rows : kind_of f ≡ 0 → (half : Option HalfMessage)
      → first_of (segment_rows x half f ++ rest) ≡ some (told (on_half x half (number_of f) (Start (length_in f) (check_in f)) (part f 9 (length f - 9))).0)
  start-rows k None = rw (last-number x.link.last f, awaited, k) (entered-row x (begun (number_of f) (length_in f) (check_in f)) 0 (part f 9 (length f - 9)) rest (none-marked 0))
  start-rows k (Some h) =
      cases (eqb h.number.0 (number_of f).0)
      (λ e. rw (last-number x.link.last f, awaited, e, k) (cases (eqb h.length (length_in f) && eqb h.check (check_in f))
      (λ u. rw u (offered-row x h 0 (part f 9 (length f - 9)) rest)) (λ u. rw u)))
      (λ e. rw (last-number x.link.last f, awaited, e, k) (entered-row x (begun (number_of f) (length_in f) (check_in f)) 0 (part f 9 (length f - 9)) rest (none-marked 0)))

  continuation-rows : kind_of f ≡ 2 → (half : Option HalfMessage)
      → first_of (segment_rows x half f ++ rest) ≡ some (told (on_half x half (number_of f) (Continuation (high_bits f)) (part f 6 (length f - 6))).0)
  continuation-rows k None = rw (last-number x.link.last f, awaited, k)
  continuation-rows k (Some h) =
      cases (eqb h.number.0 (number_of f).0)
      (λ e. rw (last-number x.link.last f, awaited, e, k) (offered-row x h (high_bits f) (part f 6 (length f - 6)) rest)) (λ e. rw (last-number x.link.last f, awaited, e, k))

-- ---- a frame at its link

module _ (f : List ℕ) (o : Octets f) where
  segment-direction : is_segment f ≡ true → is_kind 1 f ≡ false → is_kind 3 f ≡ false → (side : Side) → wrong_direction side f ≡ not (sends (peer side) (number_of f))
  segment-direction s a c Provisioner =
      rw (s, a, c, upper-half (number_of f).0 (o 4)) (cases (ltb (number_of f).0 128) (λ e. rw e) (λ e. rw e))
  segment-direction s a c Device =
      rw (s, a, c, lower-half (number_of f).0) (cases (ltb 127 (number_of f).0) (λ e. rw e) (λ e. rw e))

  acknowledgement-direction : kind_of f ≡ 1 → (side : Side) → wrong_direction side f ≡ not (sends side (number_of f))
  acknowledgement-direction k Provisioner =
      rw (k, lower-half (number_of f).0) (cases (ltb 127 (number_of f).0) (λ e. rw e) (λ e. rw e))
  acknowledgement-direction k Device =
      rw (k, upper-half (number_of f).0 (o 4)) (cases (ltb (number_of f).0 128) (λ e. rw e) (λ e. rw e))

  module _ (side : Side) (x : OneLink) where
    -- a segment on an open link
    open-segment : is_segment f ≡ true → is_kind 1 f ≡ false → is_kind 3 f ≡ false → (header : SegmentHeader) (d : List ℕ)
        → (is_last x.link.last (number_of f) ≡ false
        → first_of (segment_rows x x.link.half f ++ other_rows side S.Open f) ≡ some (told (on_half x x.link.half (number_of f) header d).0))
        → first_of (link_rows side x S.Open f) ≡ some (told (cond (sends (peer side) (number_of f)) (segment_step x (number_of f) header d) (Err R.WrongDirection, x)).0)
    unfolding segment_step
    open-segment s a c header d rows =
        rw (segment-direction s a c side) (cases (sends (peer side) (number_of f))
        (λ q. rw (q, a) (cases (is_last x.link.last (number_of f)) (λ l. rw (s, last-number x.link.last f, l)) (λ l. let w = rows l in rw l (rw a at w))))
        (λ q. rw q))

    open-acknowledgement : kind_of f ≡ 1
        → first_of (link_rows side x S.Open f) ≡ some (told (cond (sends side (number_of f)) (acknowledgement_step x (number_of f)) (Err R.WrongDirection, x)).0)
    unfolding acknowledgement_step
    open-acknowledgement k =
        rw (acknowledgement-direction k side) (cases (sends side (number_of f))
        (λ q. rw (q, k) (cases (x.link.outstanding && eqb x.link.next.0 (number_of f).0) (λ v. rw v) (λ v. rw v)))
        (λ q. rw q))

    open-ack : kind_of f ≡ 3 → high_bits f ≡ 1 → first_of (link_rows side x S.Open f) ≡ some (told (ack_step side x).0)
    open-ack k h = of side
      where
        of : (side : Side) → first_of (link_rows side x S.Open f) ≡ some (told (ack_step side x).0)
        of Provisioner = rw (k, h)
        of Device = rw (k, h)

    -- no other end has a link that is opening
    opening-ack : good_as side S.Opening x.link ≡ true → kind_of f ≡ 3 → high_bits f ≡ 1 → first_of (link_rows side x S.Opening f) ≡ some (told (Ok A.Opened))
    opening-ack good k h = of side good
      where
        of : (side : Side) → good_as side S.Opening x.link ≡ true → first_of (link_rows side x S.Opening f) ≡ some (told (Ok A.Opened))
        of Provisioner g = rw (k, h)
        of Device g = absurd (false≢true g)

    close-any : (state : LinkState) → kind_of f ≡ 3 → high_bits f ≡ 2 → first_of (link_rows side x state f) ≡ some (told (Ok (A.Closed (get_or f 6 0))))
    close-any state k h = of side state
      where
        of : (side : Side) (state : LinkState) → first_of (link_rows side x state f) ≡ some (told (Ok (A.Closed (get_or f 6 0))))
        of Provisioner S.Free = rw (k, h)
        of Provisioner S.Opening = rw (k, h)
        of Provisioner S.Open = rw (k, h)
        of Device S.Free = rw (k, h)
        of Device S.Opening = rw (k, h)
        of Device S.Open = rw (k, h)

-- what a device takes as an Open is one
pub control-open : (f : List ℕ) → kind_of f ≡ 3 → high_bits f ≡ 0 → is_control 0 f ≡ true
control-open f k h = rw (k, h)

-- frames but the Opens that come to a device
module _ (end : End) (x : OneLink) (link_good : good_link (side_of end) x.link ≡ true) (f : List ℕ) (o : Octets f) (not_open : is_device_open end f ≡ false) where
  abbrev side : Side
  side = side_of end

  -- an Open, which 4 or 5 refuses
  refused-open : kind_of f ≡ 3 → high_bits f ≡ 0 → (state : LinkState) → in_use state ≡ true → first_of (link_rows side x state f) ≡ some (told (frame_step side x state f (Ok (P.Open (link_id f) 6))).0)
  unfolding frame_step
  refused-open k h state u = of end not_open state u
    where
      of : (end : End) → is_device_open end f ≡ false → (state : LinkState) → in_use state ≡ true
          → first_of (link_rows (side_of end) x state f) ≡ some (told (frame_step (side_of end) x state f (Ok (P.Open (link_id f) 6))).0)
      of provisioner d S.Free u = absurd (false≢true u)
      of provisioner d S.Opening u = rw (k, h)
      of provisioner d S.Open u = rw (k, h)
      of (device own) d state u = absurd (false≢true (sym d ∙ control-open f k h))

  pub at-state : (state : LinkState) → x.link.state ≡ state → in_use state ≡ true → (p : Result Frame FrameRefusal) → IsFrame f p
      → first_of (link_rows side x state f) ≡ some (told (frame_step side x state f p).0)
  unfolding frame_step
  at-state S.Free e u p r = absurd (false≢true u)
  at-state S.Opening e u p (start k s) = rw k
  at-state S.Opening e u p (acknowledgement k) = rw k
  at-state S.Opening e u p (continuation k h) = rw k
  at-state S.Opening e u p (opens k h) = refused-open k h S.Opening refl
  at-state S.Opening e u p (acks k h) = opening-ack f o side x (good-as side x.link e link_good) k h
  at-state S.Opening e u p (closes k h) = close-any f o side x S.Opening k h
  at-state S.Open e u p (start k s) = open-segment f o side x (rw k) (rw k) (rw k) _ _ (λ l. start-rows x f (other_rows side S.Open f) l k x.link.half)
  at-state S.Open e u p (acknowledgement k) = open-acknowledgement f o side x k
  at-state S.Open e u p (continuation k h) = open-segment f o side x (rw k) (rw k) (rw k) _ _ (λ l. continuation-rows x f (other_rows side S.Open f) l k x.link.half)
  at-state S.Open e u p (opens k h) = refused-open k h S.Open refl
  at-state S.Open e u p (acks k h) = open-ack f o side x k h
  at-state S.Open e u p (closes k h) = close-any f o side x S.Open k h
