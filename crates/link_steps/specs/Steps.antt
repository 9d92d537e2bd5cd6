-- The steps of one link, by the functions that take them: what each asks, and what it makes of the link.
use Rattle.std.specs.Prelude.{ℕ, ◌+◌, ◌≤◌, cond, List, [], ◌≡◌, length, Option, Some, None, Result, Ok, Err}
use Rattle.links.specs.declared.Answer.{Answer}
use Rattle.pb_adv.specs.declared.Frame.{Frame}
use Rattle.pb_adv.specs.declared.FrameRefusal.{FrameRefusal}
use Rattle.octets.specs.Parts.{part, same_part}
use Rattle.pb_adv.specs.Promises.{Fits}
use Rattle.transactions.specs.Segments.{seg_n, segment_place, segment_length}
use Rattle.transactions.specs.declared.TransactionNumber.{TransactionNumber}
use Rattle.pb_adv.specs.declared.SegmentHeader.{SegmentHeader}
use Rattle.pb_adv.specs.declared.Segment.{Segment}
use Rattle.pb_adv.specs.declared.Frame.TheVariants as P
use Rattle.links.specs.Segments.{OneLink, begun, entered, offered, on_half, segment_step}
use Rattle.links.specs.Station.{frame_step}
use Rattle.links.specs.declared.Side.{Side}
use Rattle.links.specs.declared.LinkState.{LinkState}
use Rattle.links.specs.declared.HalfMessage.{HalfMessage}
use Rattle.links.specs.declared.Link.{Link}
use Rattle.links.specs.declared.Refusal.{Refusal}
use Rattle.links.specs.declared.Refusal.TheVariants as R
use Rattle.links.specs.declared.Answer.TheVariants as A
use Rattle.link_steps.specs.Calls.{one_link}
use Rattle.link_steps.specs.declared.Stepped.{Stepped}

-- ---- what is handed back

-- a record and an answer
abbrev pub stepped_to : Link → Result Answer Refusal → Stepped
stepped_to link answer = record { link = link; answer = answer }

-- a refusal, and nothing changed
abbrev pub link_refused : Link → Refusal → Stepped
link_refused link r = stepped_to link (Err r)

-- ---- a segment that goes to a message

-- the answer to a segment k with octets d that is in already
unfoldable pub compared : ℕ → List ℕ → List ℕ → Result Answer Refusal
compared k p d = cond (same_part p (segment_place k) d 0 (length d)) (Ok A.Repeat) (Err R.Mismatch)

-- a segment k of the message h with octets d, entered or offered at a link
module _ (link : Link) (p : List ℕ) (h : HalfMessage) (k : ℕ) (d : List ℕ) where
  abbrev pub entered_at : Result Answer Refusal × OneLink
  entered_at = entered (one_link link p) h k d

  abbrev pub offered_at : Result Answer Refusal × OneLink
  offered_at = offered (one_link link p) h k d

-- a Start that begins a message
abbrev pub begun_at : Link → List ℕ → TransactionNumber → ℕ → ℕ → List ℕ → Result Answer Refusal × OneLink
begun_at link p t n c d = entered_at link p (begun t n c) 0 d

-- a segment of the message h is offered
pub record OfferAsks (h : HalfMessage) (p : List ℕ) : Type 0 where
  pub room : length p ≡ 1469
  pub some_octets : 1 ≤ h.length
  pub few_octets : h.length ≤ 1469

-- segment k of it is entered; nothing asks here that it is full
pub record EnterAsks (h : HalfMessage) (k : ℕ) (p d : List ℕ) : Type 0 where
  pub room : length p ≡ 1469
  pub some_octets : 1 ≤ h.length
  pub few_octets : h.length ≤ 1469
  pub inside : k ≤ seg_n h.length
  pub fits : length d ≤ segment_length h.length k

-- ---- a segment at its link

-- what is half-received has a length in range
abbrev pub InRange : Option HalfMessage → Type 0
InRange None = Unit {0}
InRange (Some h) = (1 ≤ h.length) × (h.length ≤ 1469)

-- a segment of header h with octets d
pub record HeaderAsks (link : Link) (p : List ℕ) (h : SegmentHeader) (d : List ℕ) : Type 0 where
  pub room : length p ≡ 1469
  pub half : InRange link.half
  pub fits : Fits h (length d)

-- a segment that stands in a frame
pub record SegmentAsks (link : Link) (p f : List ℕ) (s : Segment) : Type 0 where
  pub room : length p ≡ 1469
  pub half : InRange link.half
  pub in_frame : s.from + s.count ≤ length f
  pub fits : Fits s.header s.count

-- what a segment comes to by its header
abbrev pub by_header : Link → List ℕ → TransactionNumber → SegmentHeader → List ℕ → Result Answer Refusal × OneLink
by_header link p t h d = on_half (one_link link p) link.half t h d

abbrev pub segment_steps : Link → List ℕ → List ℕ → Segment → Result Answer Refusal × OneLink
segment_steps link p f s = segment_step (one_link link p) s.number s.header (part f s.from s.count)

-- a segment at a link, by a state
abbrev pub segment_taken : Side → Link → LinkState → List ℕ → List ℕ → Segment → Result Answer Refusal × OneLink
segment_taken side link state p f s = frame_step side (one_link link p) state f (Ok (P.Segment s))

-- ---- a frame of another kind, at a link without its octets

abbrev pub NoSegment : Frame → Type 0
NoSegment (P.Segment s) = ⊥
NoSegment (P.Acknowledgement id t) = Unit {0}
NoSegment (P.Open id uuid) = Unit {0}
NoSegment (P.Ack id) = Unit {0}
NoSegment (P.Close id reason) = Unit {0}

abbrev pub other_step : Side → Link → LinkState → Result Frame FrameRefusal → Result Answer Refusal × OneLink
other_step side link state p = frame_step side (one_link link []) state [] p
