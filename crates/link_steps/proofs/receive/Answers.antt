-- 11, 14, then the frame (`received-frame`): a frame that is no segment leaves the part (`other-frame`), a segment stands in the frame (`segments-are-encodings`).
use mathlib.Core.Path.{◌∙◌, sym}
use Rattle.std.proofs.Common.{rules}
use Rattle.pb_adv.proofs.Promises.{segments-are-encodings}
use Rattle.link_steps.specs.Calls.{one_link}
use Rattle.link_steps.proofs.Laws.{received-bad, received-frame, received-segment, received-small, no-segment, other-frame, range-in, segment-inside}
use Rattle.link_steps.proofs.receive.Goals as goal

pub returns-then-part-ne-LONGEST_MESSAGE : goal.returns-then-part-ne-LONGEST_MESSAGE
returns-then-part-ne-LONGEST_MESSAGE c =
    let a = c.args in
    let e = received-small a.side (one_link a.link a.part.now) a.frame.now c.if-part-ne-LONGEST_MESSAGE.true in
    (simp (e, c.refuse_link.ensures), simp e)

pub returns-then-not-is_in_range : goal.returns-then-not-is_in_range
returns-then-not-is_in_range c =
    let a = c.args in
    let e = received-bad a.side (one_link a.link a.part.now) a.frame.now c.if-part-ne-LONGEST_MESSAGE.false (sym c.is_in_range.ensures ∙ c.if-not-is_in_range.true) in
    (simp (e, c.refuse_link-then-not-is_in_range.ensures), simp e)

pub returns-in-Err : goal.returns-in-Err
returns-in-Err c =
    let a = c.args in
    let e = received-frame a.side (one_link a.link a.part.now) a.frame.now c.if-part-ne-LONGEST_MESSAGE.false (sym c.is_in_range.ensures ∙ c.if-not-is_in_range.false) in
    let p = sym c.parse.ensures ∙ c.in-Err.is in
    (simp (e, p, c.refuse_link-in-Err.ensures, c.from.ensures), simp (e, p))

pub receive_other-requires : goal.receive_other-requires
receive_other-requires c = no-segment c.in-Ok.parsed c.in_default.not-Segment

pub returns-in_default : goal.returns-in_default
returns-in_default c =
    let a = c.args in
    let e = received-frame a.side (one_link a.link a.part.now) a.frame.now c.if-part-ne-LONGEST_MESSAGE.false (sym c.is_in_range.ensures ∙ c.if-not-is_in_range.false) in
    let p = sym c.parse.ensures ∙ c.in-Ok.is in
    let o = other-frame a.side a.link a.part.now a.frame.now c.in-Ok.parsed (no-segment c.in-Ok.parsed c.in_default.not-Segment) in
    (simp (e, p, o.0, c.receive_other.ensures), simp (e, p, o.1))

pub take_segment-requires : goal.take_segment-requires
take_segment-requires c =
    let a = c.args in
    let s = c.in-Segment.segment in
    let r = segments-are-encodings a.frame.now (λ i. search rules) s (sym c.parse.ensures ∙ rw (← c.in-Segment.is) c.in-Ok.is) in
    record { room = c.if-part-ne-LONGEST_MESSAGE.false; half = range-in a.link.half (sym c.is_in_range.ensures ∙ c.if-not-is_in_range.false); in_frame = segment-inside a.frame.now s r; fits = r.fits }

pub returns : goal.returns
returns c =
    let a = c.args in
    let p = sym c.parse.ensures ∙ rw (← c.in-Segment.is) c.in-Ok.is in
    let e = received-segment a.side (one_link a.link a.part.now) a.frame.now c.if-part-ne-LONGEST_MESSAGE.false (sym c.is_in_range.ensures ∙ c.if-not-is_in_range.false) c.in-Segment.segment p in
    (rw (e, ← c.state_for-state.ensures) c.take_segment.ensures.0, rw (e, ← c.state_for-state.ensures) c.take_segment.ensures.1)
