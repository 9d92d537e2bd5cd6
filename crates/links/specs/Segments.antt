-- What a segment does at its link: "acknowledge again", then 6, 7 and 8, in document 01's order.
use Rattle.std.specs.Prelude.{ℕ, ◌&&◌, cond, List, leb, eqb, length, take, Option, Some, None, Result, Ok, Err}
use Rattle.links.specs.declared.Answer.{Answer}
use Rattle.links.specs.declared.Refusal.{Refusal}
use Rattle.octets.specs.Parts.{write, same}
use Rattle.octets.specs.Cut.{piece}
use Rattle.fcs.specs.Fcs.{check_octet}
use Rattle.transactions.specs.Segments.{seg_n, segment_place, segment_length}
use Rattle.transactions.specs.declared.TransactionNumber.{TransactionNumber}
use Rattle.pb_adv.specs.declared.SegmentHeader.{SegmentHeader}
use Rattle.pb_adv.specs.declared.SegmentHeader.TheVariants.{Start, Continuation}
use Rattle.links.specs.Marks.{is_marked, with_mark, all_marked}
use Rattle.links.specs.Links.{is_last, with_received}
use Rattle.links.specs.declared.HalfMessage.{HalfMessage}
use Rattle.links.specs.declared.Link.{Link}
use Rattle.links.specs.declared.Refusal.TheVariants as R
use Rattle.links.specs.declared.Answer.TheVariants as A

-- a link with its socket's part of the area
pub record OneLink : Type 0 where
  pub link : Link
  pub part : List ℕ

-- the half-received message with segment k in too
abbrev pub marked : HalfMessage → ℕ → HalfMessage
marked h k = record { number = h.number; length = h.length; check = h.check; marks = with_mark h.marks k }

-- ---- the half-received message m, once a segment of it is marked and stands in the part p

module _ (link : Link) (m : HalfMessage) (p : List ℕ) where
  -- "A message complete and checked answers 'delivered' with length and number; [..] the half-received record is cleared."
  abbrev pub whole : Result Answer Refusal × OneLink
  whole = (Ok (A.Delivered m.length m.number), record { link = with_received link (Some m.number) None; part = p })

  -- "Refusal 8 clears it too, the octets, the last segment's among them, stay written, and the last delivered number stays."
  abbrev pub wrong : Result Answer Refusal × OneLink
  wrong = (Err R.WrongCheck, record { link = with_received link link.last None; part = p })

  -- "A new segment that leaves others missing answers 'kept'; only its octets change in the area."
  abbrev pub kept : Result Answer Refusal × OneLink
  kept = (Ok A.Kept, record { link = with_received link link.last (Some m); part = p })

  -- by the segments that are in, and by the check octet once all are
  abbrev pub completed : Result Answer Refusal × OneLink
  completed =
      cond (all_marked (seg_n m.length) m.marks)
      (cond (eqb (check_octet (take m.length p)) m.check) whole wrong)
      kept

module _ (x : OneLink) (h : HalfMessage) (k : ℕ) (d : List ℕ) where
  -- the part with the segment's octets at their place
  abbrev pub part_with : List ℕ
  part_with = write x.part (segment_place k) d

  -- a new segment k of the half-received message h, with octets d
  unfoldable pub entered : Result Answer Refusal × OneLink
  entered = completed x.link (marked h k) part_with

  -- a segment k of it, new or not: 7 above SegN, of a wrong length, or unlike the octets that are in; "repeat" like them
  unfoldable pub offered : Result Answer Refusal × OneLink
  offered =
      cond (leb k (seg_n h.length) && eqb (length d) (segment_length h.length k))
      (cond (is_marked h.marks k)
      (cond (same (piece segment_place h.length x.part k) d) (Ok A.Repeat, x) (Err R.Mismatch, x))
      entered)
      (Err R.Mismatch, x)

-- a message of which nothing is in yet
abbrev pub begun : TransactionNumber → ℕ → ℕ → HalfMessage
begun t n c = record { number = t; length = n; check = c; marks = 0 }

-- by what is half-received: a Start begins a message, or one of another number in its place; 6 a Continuation without its message; 7 a Start
-- with other L or check
abbrev pub on_half : OneLink → Option HalfMessage → TransactionNumber → SegmentHeader → List ℕ → Result Answer Refusal × OneLink
on_half x None t (Start n c) d = entered x (begun t n c) 0 d
on_half x None t (Continuation k) d = (Err R.NotBegun, x)
on_half x (Some h) t (Start n c) d =
    cond (eqb h.number.0 t.0)
    (cond (eqb h.length n && eqb h.check c) (offered x h 0 d) (Err R.Mismatch, x))
    (entered x (begun t n c) 0 d)
on_half x (Some h) t (Continuation k) d = cond (eqb h.number.0 t.0) (offered x h k d) (Err R.NotBegun, x)

-- WHAT A SEGMENT DOES, past refusal 5: "a segment with the link's last delivered number answers 'acknowledge again' and changes nothing,
-- whatever it carries"
unfoldable pub segment_step : OneLink → TransactionNumber → SegmentHeader → List ℕ → Result Answer Refusal × OneLink
segment_step x t header d =
    cond (is_last x.link.last t) (Ok A.AcknowledgeAgain, x) (on_half x x.link.half t header d)
