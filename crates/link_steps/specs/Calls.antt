-- RECEIVING A FRAME AT ONE LINK, at either end: the rules of `links` over one record and its socket's part of the area.
use Rattle.std.specs.Prelude.{ℕ, Bool, true, cond, List, eqb, length, Option, Some, None, Result, Ok, Err}
use Rattle.links.specs.declared.Answer.{Answer}
use Rattle.links.specs.declared.Refusal.{Refusal}
use Rattle.pb_adv.specs.declared.Frame.{Frame}
use Rattle.pb_adv.specs.declared.FrameRefusal.{FrameRefusal}
use Rattle.links.specs.declared.HalfMessage.{HalfMessage}
use Rattle.octets.specs.Lengths.{is_length}
use Rattle.pb_adv.specs.Frame.{parsed}
use Rattle.pb_adv.specs.declared.Frame.TheVariants as P
use Rattle.links.specs.Links.{has_id}
use Rattle.links.specs.Segments.{OneLink}
use Rattle.links.specs.Station.{frame_refusal, frame_step}
use Rattle.links.specs.declared.Side.{Side}
use Rattle.links.specs.declared.LinkState.{LinkState}
use Rattle.links.specs.declared.LinkState.TheVariants as S
use Rattle.links.specs.declared.Link.{Link}
use Rattle.links.specs.declared.Refusal.TheVariants as R
use Rattle.link_steps.specs.declared.Stepped.{Stepped}

-- one link with its socket's part of the area, and the record and the answer after a step of it
abbrev pub one_link : Link → List ℕ → OneLink
one_link link part = record { link = link; part = part }

abbrev pub stepped_of : Result Answer Refusal × OneLink → Stepped
stepped_of r = record { link = r.1.link; answer = r.0 }

-- the record and the answer after a step of the record alone
abbrev pub record_stepped : Result Answer Refusal × Link → Stepped
record_stepped r = record { link = r.1; answer = r.0 }

-- 3 "Link ID of no record in use", or the link's step
abbrev pub at_id : Side → OneLink → ℕ → List ℕ → Result Frame FrameRefusal → Result Answer Refusal × OneLink
at_id side x id f p = cond (has_id x.link id) (frame_step side x x.link.state f p) (Err R.UnknownLink, x)

-- a link's state for a frame with a Link ID: a link of another is for it as if it were free, and a free one refuses with 3
abbrev pub state_for : Link → ℕ → LinkState
state_for l id = cond (eqb l.id id) l.state S.Free

-- 1 and 2, or the link by the frame's Link ID
abbrev pub of_link : Side → OneLink → List ℕ → Result Frame FrameRefusal → Result Answer Refusal × OneLink
of_link side x f (Ok (P.Segment s)) = at_id side x s.id f (Ok (P.Segment s))
of_link side x f (Ok (P.Acknowledgement id t)) = at_id side x id f (Ok (P.Acknowledgement id t))
of_link side x f (Ok (P.Open id uuid)) = at_id side x id f (Ok (P.Open id uuid))
of_link side x f (Ok (P.Ack id)) = at_id side x id f (Ok (P.Ack id))
of_link side x f (Ok (P.Close id reason)) = at_id side x id f (Ok (P.Close id reason))
of_link side x f (Err r) = (Err (frame_refusal r), x)

-- a half-received message with its L in range
abbrev pub in_range : Option HalfMessage → Bool
in_range None = true
in_range (Some h) = is_length h.length

-- RECEIVING A FRAME AT ONE LINK: 11 a part of another length, 14 an L that is out of range, then the frame. What else is bad, in this record or in
-- others, the calls of an end judge first
unfoldable pub link_received : Side → OneLink → List ℕ → Result Answer Refusal × OneLink
link_received side x f =
    cond (eqb (length x.part) 1469)
    (cond (in_range x.link.half) (of_link side x f (parsed f)) (Err R.BadState, x))
    (Err R.WrongArgument, x)
