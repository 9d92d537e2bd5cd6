-- Laws between the definitions of `links` and the steps of one link.
use Prim.Native.Nat.{ℕ, ◌+◌, ◌≤◌, ◌<◌}
use Rattle.links.specs.declared.Answer.{Answer}
use Rattle.links.specs.declared.Refusal.{Refusal}
use Rattle.pb_adv.specs.declared.Frame.{Frame}
use Rattle.pb_adv.specs.declared.FrameRefusal.{FrameRefusal}
use Rattle.std.specs.Prelude.{Option, Some, None, Result, Ok, Err}
use native.Mathlib.Omega.{arith}
use mathlib.Core.Bool.{cond, true, false, ◌&&◌, not, false≢true}
use mathlib.Core.List.{List, []}
use mathlib.Core.Path.{◌≡◌, refl, sym, ap, ◌∙◌}
use lib.Dec.{eqb, leb}
use lib.ListN.{length, take, drop, length-take, length-drop}
use borrow.Author.Tests.{le-leb, leb-true, eq-eqb, ne_eqb}
use Rattle.octets.specs.Parts.{part, write, copied, same, same_part}
use Rattle.octets.proofs.Parts.{copied-part, same-part-fits}
use lib.Seq.{take-length}
use Rattle.octets.proofs.Tests.{cases, both_hold, holds-both}
use Rattle.octets.specs.Cut.{piece}
use Rattle.fcs.specs.Fcs.{check_octet}
use Rattle.pb_adv.proofs.Tables.{IsFrame, start, acknowledgement, continuation, opens, acks, closes, Reads, no-frame, unknown, frame, reads}
use Rattle.pb_adv.specs.Frame.{link_id, id_of, parsed}
use Rattle.pb_adv.specs.Tables.{malformed}
use Rattle.pb_adv.specs.Promises.{Fits, IsEncoding}
use Rattle.transactions.specs.Segments.{seg_n, segment_place, segment_length}
use Rattle.transactions.proofs.Laws.{segment-begins}
use Rattle.pb_adv.specs.declared.SegmentHeader.{SegmentHeader}
use Rattle.pb_adv.specs.declared.SegmentHeader.TheVariants.{Start, Continuation}
use Rattle.pb_adv.specs.declared.Segment.{Segment}
use Rattle.transactions.specs.declared.TransactionNumber.{TransactionNumber}
use Rattle.pb_adv.specs.declared.Frame.TheVariants as P
use Rattle.links.specs.Marks.{is_marked, with_mark, all_marked}
use Rattle.links.specs.Links.{End, side_of, sends, first_number, is_last, has_id, find, in_use}
use Rattle.links.specs.Good.{good, good_half, good_as, good_link, at_rest, is_nothing, is_empty}
use Rattle.links.specs.Segments.{OneLink, marked, entered, offered, on_half, segment_step, completed}
use Rattle.links.specs.Station.{Station, get_link, put_link, acknowledgement_step, ack_step, frame_step, at_socket, on_frame, is_right, received}
use Rattle.links.specs.Tables.{is_device_open}
use Rattle.links.proofs.Keep.{message-out, open-out}
use Rattle.links.proofs.Lens.{Sized, right-sized, found_at, found_nowhere, good-get, part-size, put-get}
use Rattle.links.proofs.Tables.{goes}
use Rattle.links.specs.declared.Side.{Side}
use Rattle.links.specs.declared.Side.TheVariants.{Provisioner, Device}
use Rattle.links.specs.declared.LinkState.{LinkState}
use Rattle.links.specs.declared.LinkState.TheVariants as S
use Rattle.links.specs.declared.HalfMessage.{HalfMessage}
use Rattle.links.specs.declared.Link.{Link}
use Rattle.links.specs.declared.Refusal.TheVariants as R
use Rattle.links.specs.declared.Answer.TheVariants as A
use Rattle.link_steps.specs.Calls.{one_link, stepped_of, at_id, state_for, of_link, link_received, in_range}
use Rattle.link_steps.specs.Steps.{compared, EnterAsks, NoSegment, other_step, InRange}

-- ---- a segment that goes to a message

module _ (x : OneLink) (h : HalfMessage) (k : ℕ) (d : List ℕ) where
  pub entered-is : entered x h k d ≡ completed x.link (marked h k) (write x.part (segment_place k) d)
  unfolding entered
  entered-is = refl

  pub entered-part : (entered x h k d).1.part ≡ write x.part (segment_place k) d
  unfolding entered
  entered-part =
      cases (all_marked (seg_n h.length) (with_mark h.marks k))
      (λ e. cases (eqb (check_octet (take h.length (write x.part (segment_place k) d))) h.check) (λ c. rw (e, c)) (λ c. rw (e, c)))
      (λ e. rw e)

-- a segment lies within a part
pub segment-in : (n k count : ℕ) → 1 ≤ n → n ≤ 1469 → k ≤ seg_n n → count ≤ segment_length n k → segment_place k + count ≤ 1469
segment-in n k count some few inside fits = omega (arith, segment-begins n k some inside)

-- octets that are copied whole
pub copied-whole : (p d : List ℕ) (at : ℕ) → at + length d ≤ length p → copied p at d 0 (length d) ≡ write p at d
copied-whole p d at h = copied-part p at d 0 (length d) h (omega arith) ∙ ap (write p at) (take-length d)

-- a segment that is offered and right: in already, or new
module _ (x : OneLink) (h : HalfMessage) (k : ℕ) (d : List ℕ) (asks : EnterAsks h k x.part d) (full : length d ≡ segment_length h.length k) where
  fits-part : segment_place k + length d ≤ length x.part
  fits-part = omega (arith, segment-in h.length k (length d) asks.some_octets asks.few_octets asks.inside asks.fits, asks.room)

  right : eqb (length d) (segment_length h.length k) ≡ true
  right = eq-eqb _ _ full

  compares : same (piece segment_place h.length x.part k) d ≡ same_part x.part (segment_place k) d 0 (length d)
  unfolding piece
  compares =
      rw (← full)
      (sym (same-part-fits x.part (segment_place k) d 0 (length d) fits-part (omega arith) ∙ ap (same (part x.part (segment_place k) (length d))) (take-length d)))

  pub offered-in : is_marked h.marks k ≡ true
      → (stepped_of (offered x h k d) ≡ record { link = x.link; answer = compared k x.part d })
      × ((offered x h k d).1.part ≡ x.part)
  unfolding offered compared
  offered-in m =
      cases (same_part x.part (segment_place k) d 0 (length d))
      (λ e. rw (le-leb k (seg_n h.length) asks.inside, right, m, compares, e) (refl, refl))
      (λ e. rw (le-leb k (seg_n h.length) asks.inside, right, m, compares, e) (refl, refl))

  pub offered-new : is_marked h.marks k ≡ false → offered x h k d ≡ entered x h k d
  unfolding offered
  offered-new m = rw (le-leb k (seg_n h.length) asks.inside, right, m)

-- ---- a segment at an open link

module _ (x : OneLink) (t : TransactionNumber) (h : SegmentHeader) (d : List ℕ) where
  pub delivered-last : is_last x.link.last t ≡ true → segment_step x t h d ≡ (Ok A.AcknowledgeAgain, x)
  unfolding segment_step
  delivered-last e = rw e

  pub not-delivered-last : is_last x.link.last t ≡ false → segment_step x t h d ≡ on_half x x.link.half t h d
  unfolding segment_step
  not-delivered-last e = rw e

-- ---- what a record says of a half-received message

pub range-in : (half : Option HalfMessage) → in_range half ≡ true → InRange half
range-in None e = tt
range-in (Some h) e =
    let p = both_hold {a = leb 1 h.length} {b = leb h.length 1469} e in
    (leb-true 1 h.length p.0, leb-true h.length 1469 p.1)

empty-in : (half : Option HalfMessage) → is_empty half ≡ true → in_range half ≡ true
empty-in None e = refl
empty-in (Some h) e = absurd (false≢true e)

module _ (side : Side) where
  rest_in : (l : Link) → at_rest side l ≡ true → in_range l.half ≡ true
  rest_in l e =
      let p = both_hold {a = eqb l.next.0 (first_number side).0} {b = not l.outstanding && (is_nothing l.last && is_empty l.half)} e in
      let q = both_hold {a = not l.outstanding} {b = is_nothing l.last && is_empty l.half} p.1 in
      empty-in l.half (both_hold {a = is_nothing l.last} {b = is_empty l.half} q.1).1

  half_in : (last : Option TransactionNumber) (half : Option HalfMessage) → good_half side last half ≡ true → in_range half ≡ true
  half_in last None e = refl
  half_in last (Some h) e = let g = message-out side last h e in holds-both (le-leb 1 h.length g.some-octets) (le-leb h.length 1469 g.few-octets)

-- the device's end has no record that is opening
opening-in : (side : Side) (l : Link) → good_as side S.Opening l ≡ true → in_range l.half ≡ true
opening-in Provisioner l e = rest_in Provisioner l e
opening-in Device l e = absurd (false≢true e)

state-in : (side : Side) (state : LinkState) (l : Link) → good_as side state l ≡ true → in_range l.half ≡ true
state-in side S.Free l e = rest_in side l (both_hold {a = eqb l.id 0} {b = at_rest side l} e).1
state-in side S.Opening l e = opening-in side l e
state-in side S.Open l e = half_in side l.last l.half (open-out side l e).2

-- a good record has a half-received message in range
pub good-in : (side : Side) (l : Link) → good_link side l ≡ true → in_range l.half ≡ true
good-in side l e = state-in side l.state l e

-- ---- a segment that was read

pub segment-inside : (f : List ℕ) (s : Segment) → IsEncoding f s → s.from + s.count ≤ length f
segment-inside f s e =
    let l = e.long in
    let a = length-take s.count (drop s.from f) in
    let b = length-drop s.from f in
    let some = some-octets s.header s.count e.fits in
    omega arith
  where
    some-octets : (h : SegmentHeader) (count : ℕ) → Fits h count → 1 ≤ count
    some-octets (Start n c) count v = omega (arith, v.0, v.2)
    some-octets (Continuation k) count v = v.2

-- ---- a frame that is no segment

pub no-segment : (p : Frame) → ((s : Segment) → p ≡ P.Segment s → ⊥) → NoSegment p
no-segment (P.Segment s) h = h s refl
no-segment (P.Acknowledgement id t) h = tt
no-segment (P.Open id uuid) h = tt
no-segment (P.Ack id) h = tt
no-segment (P.Close id reason) h = tt

-- at a link it does what it does without the octets, and leaves the part
ack-same : (side : Side) (l : Link) (a : List ℕ) → (stepped_of (ack_step side (one_link l a)) ≡ stepped_of (ack_step side (one_link l []))) × ((ack_step side (one_link l a)).1.part ≡ a)
ack-same Provisioner l a = (refl, refl)
ack-same Device l a = (refl, refl)

module _ (side : Side) (l : Link) (a f : List ℕ) where
  other-same : (state : LinkState) (p : Frame) → NoSegment p
      → (stepped_of (frame_step side (one_link l a) state f (Ok p)) ≡ stepped_of (other_step side l state (Ok p)))
      × ((frame_step side (one_link l a) state f (Ok p)).1.part ≡ a)
  unfolding frame_step acknowledgement_step
  other-same S.Free p h = (refl, refl)
  other-same S.Opening (P.Segment s) h = absurd h
  other-same S.Opening (P.Acknowledgement id t) h = (refl, refl)
  other-same S.Opening (P.Open id uuid) h = (refl, refl)
  other-same S.Opening (P.Ack id) h = (refl, refl)
  other-same S.Opening (P.Close id reason) h = (refl, refl)
  other-same S.Open (P.Segment s) h = absurd h
  other-same S.Open (P.Acknowledgement id t) h =
      cases (sends side t)
      (λ e. cases (l.outstanding && eqb l.next.0 t.0) (λ c. rw (e, c) (refl, refl)) (λ c. rw (e, c) (refl, refl)))
      (λ e. rw e (refl, refl))
  other-same S.Open (P.Open id uuid) h = (refl, refl)
  other-same S.Open (P.Ack id) h = ack-same side l a
  other-same S.Open (P.Close id reason) h = (refl, refl)

  other-id : (id : ℕ) (p : Frame) → NoSegment p
      → (stepped_of (at_id side (one_link l a) id f (Ok p)) ≡ stepped_of (at_id side (one_link l []) id [] (Ok p))) × ((at_id side (one_link l a) id f (Ok p)).1.part ≡ a)
  other-id id p h = cases (has_id l id) (λ e. rw e (other-same l.state p h)) (λ e. rw e (refl, refl))

  pub other-frame : (p : Frame) → NoSegment p
      → (stepped_of (of_link side (one_link l a) f (Ok p)) ≡ stepped_of (of_link side (one_link l []) [] (Ok p))) × ((of_link side (one_link l a) f (Ok p)).1.part ≡ a)
  other-frame (P.Segment s) h = absurd h
  other-frame (P.Acknowledgement id t) h = other-id id (P.Acknowledgement id t) h
  other-frame (P.Open id uuid) h = other-id id (P.Open id uuid) h
  other-frame (P.Ack id) h = other-id id (P.Ack id) h
  other-frame (P.Close id reason) h = other-id id (P.Close id reason) h

-- it comes to the link by its Link ID
pub by-id : (side : Side) (x : OneLink) (f : List ℕ) (p : Frame) → of_link side x f (Ok p) ≡ at_id side x (id_of p) f (Ok p)
by-id side x f (P.Segment s) = refl
by-id side x f (P.Acknowledgement id t) = refl
by-id side x f (P.Open id uuid) = refl
by-id side x f (P.Ack id) = refl
by-id side x f (P.Close id reason) = refl

-- ---- the receiving call

-- a link of another Link ID is as a free one
pub id-state : (side : Side) (x : OneLink) (id : ℕ) (f : List ℕ) (p : Result Frame FrameRefusal) → at_id side x id f p ≡ frame_step side x (state_for x.link id) f p
unfolding frame_step
id-state side x id f p = cases (eqb x.link.id id) (λ e. rw e (own x.link.state)) (λ e. rw e (other x.link.state))
  where
    own : (state : LinkState) → cond (in_use state && true) (frame_step side x state f p) (Err R.UnknownLink, x) ≡ frame_step side x state f p
    own S.Free = refl
    own S.Opening = refl
    own S.Open = refl

    other : (state : LinkState) → cond (in_use state && false) (frame_step side x state f p) (Err R.UnknownLink, x) ≡ (Err R.UnknownLink, x)
    other S.Free = refl
    other S.Opening = refl
    other S.Open = refl

module _ (side : Side) (x : OneLink) (f : List ℕ) where
  pub received-small : (length x.part ≡ 1469 → ⊥) → link_received side x f ≡ (Err R.WrongArgument, x)
  unfolding link_received
  received-small h = rw (ne_eqb (length x.part) 1469 h)

  pub received-bad : length x.part ≡ 1469 → in_range x.link.half ≡ false → link_received side x f ≡ (Err R.BadState, x)
  unfolding link_received
  received-bad h g = rw (eq-eqb (length x.part) 1469 h, g)

  pub received-frame : length x.part ≡ 1469 → in_range x.link.half ≡ true → link_received side x f ≡ of_link side x f (parsed f)
  unfolding link_received
  received-frame h g = rw (eq-eqb (length x.part) 1469 h, g)

  pub received-segment : length x.part ≡ 1469 → in_range x.link.half ≡ true → (s : Segment) → parsed f ≡ Ok (P.Segment s)
      → link_received side x f ≡ frame_step side x (state_for x.link s.id) f (Ok (P.Segment s))
  received-segment h g s p = received-frame h g ∙ rw p (id-state side x s.id f (Ok (P.Segment s)))

-- ---- a frame at a station

-- a frame has the Link ID that its octets begin with
of-id : (side : Side) (x : OneLink) (f : List ℕ) (p : Result Frame FrameRefusal) → IsFrame f p → of_link side x f p ≡ at_id side x (link_id f) f p
of-id side x f p (start k s) = refl
of-id side x f p (acknowledgement k) = refl
of-id side x f p (continuation k h) = refl
of-id side x f p (opens k h) = refl
of-id side x f p (acks k h) = refl
of-id side x f p (closes k h) = refl

-- but for the Opens that come to a device
module _ (end : End) (σ : Station) (f : List ℕ) (right : is_right end σ ≡ true) (state_good : good (side_of end) σ.links ≡ true)
    (not_open : malformed f ≡ false → is_device_open end f ≡ false) (s : ℕ) (below : s < length σ.links) where
  abbrev side : Side
  side = side_of end

  sized : Sized σ
  sized = right-sized end σ right

  -- the station with a step of the link at place s
  abbrev stepped_at : Result Answer Refusal × OneLink → Result Answer Refusal × Station
  stepped_at r = (r.0, put_link s r.1 σ)

  same_at : (a : Result Answer Refusal) → (a, σ) ≡ stepped_at (a, get_link s σ)
  same_at a = ap (λ (τ : Station). (a, τ)) (sym (put-get s σ (omega (arith, sized))))

  -- what is left to show of it: that the record which is found does as the one at place s
  abbrev AsFound : Type 0
  AsFound = (p : Result Frame FrameRefusal) → at_socket side σ (find σ.links (link_id f)) f p ≡ stepped_at (at_id side (get_link s σ) (link_id f) f p)

  by-reads : AsFound → (p : Result Frame FrameRefusal) → Reads f p → on_frame end σ f p ≡ stepped_at (of_link side (get_link s σ) f p)
  by-reads h p (no-frame m) = same_at (Err R.Malformed)
  by-reads h p (unknown m n) = same_at (Err R.UnknownOpcode)
  by-reads h p (frame m n r) = goes end σ f p r (not_open m) ∙ h p ∙ sym (ap stepped_at (of-id side (get_link s σ) f p r))

  received-by : AsFound → received end σ f ≡ stepped_at (link_received side (get_link s σ) f)
  unfolding received
  received-by h =
      let size = part-size (length σ.links) σ refl sized s below in
      let range = good-in side (get_link s σ).link (good-get side σ s state_good below) in
      rw (right, state_good)
      (by-reads h (parsed f) (reads f) ∙ sym (ap stepped_at (received-frame side (get_link s σ) f size range)))

  -- the record in use that has the frame's Link ID steps
  pub received-at : find σ.links (link_id f) ≡ Some s → received end σ f ≡ stepped_at (link_received side (get_link s σ) f)
  unfolding get_link
  received-at at = let w = (found_at σ.links (link_id f) s at).1 in received-by (λ p. rw (at, w))

  -- where no record has it, each refuses the frame
  pub received-nowhere : find σ.links (link_id f) ≡ None → received end σ f ≡ stepped_at (link_received side (get_link s σ) f)
  unfolding get_link
  received-nowhere nowhere =
      let w = found_nowhere σ.links (link_id f) nowhere s in
      received-by (λ p. rw (nowhere, w) (same_at (Err R.UnknownLink)))
