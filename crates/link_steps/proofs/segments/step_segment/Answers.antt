-- The last delivered number first, then the header.
use lib.ListN.{length}
use mathlib.Core.Path.{◌≡◌, ◌∙◌, subst, sym}
use native.Mathlib.Nat.{add-sub_cancel_left}
use native.Mathlib.Omega.{arith}
use Rattle.octets.specs.Parts.{part}
use Rattle.octets.proofs.Parts.{part_length}
use Rattle.pb_adv.specs.Promises.{Fits}
use Rattle.link_steps.specs.Calls.{one_link}
use Rattle.link_steps.proofs.Laws.{delivered-last, not-delivered-last}
use Rattle.link_steps.proofs.segments.step_segment.Goals as goal

pub returns-then-is_last : goal.returns-then-is_last
returns-then-is_last c =
    let a = c.args in
    let q = delivered-last (one_link a.link a.part.now) a.segment.number a.segment.header (part a.frame.now a.segment.from a.segment.count) (sym c.is_last.ensures ∙ c.if-is_last.true) in
    (rw q, rw q)

pub on_start-requires : goal.on_start-requires
on_start-requires c =
    let a = c.args in
    let q = c.requires in
    let l = part_length a.frame.now a.segment.from a.segment.count q.in_frame in
    record { room = q.room; half = q.half; fits = rw (add-sub_cancel_left, l) (subst (λ h. Fits h a.segment.count) c.in-Start.is q.fits) }

pub on_continuation-requires : goal.on_continuation-requires
on_continuation-requires c =
    let a = c.args in
    let q = c.requires in
    let l = part_length a.frame.now a.segment.from a.segment.count q.in_frame in
    record { room = q.room; half = q.half; fits = rw (add-sub_cancel_left, l) (subst (λ h. Fits h a.segment.count) c.in-Continuation.is q.fits) }

pub returns-in-Start : goal.returns-in-Start
returns-in-Start c =
    let a = c.args in
    let q = not-delivered-last (one_link a.link a.part.now) a.segment.number a.segment.header (part a.frame.now a.segment.from a.segment.count) (sym c.is_last.ensures ∙ c.if-is_last.false) in
    let e = c.in-Start.is in
    let s = c.on_start.ensures in
    (rw (q, e) (rw add-sub_cancel_left at s.0), rw (q, e) (rw add-sub_cancel_left at s.1))

pub returns-in-Continuation : goal.returns-in-Continuation
returns-in-Continuation c =
    let a = c.args in
    let q = not-delivered-last (one_link a.link a.part.now) a.segment.number a.segment.header (part a.frame.now a.segment.from a.segment.count) (sym c.is_last.ensures ∙ c.if-is_last.false) in
    let e = c.in-Continuation.is in
    let s = c.on_continuation.ensures in
    (rw (q, e) (rw add-sub_cancel_left at s.0), rw (q, e) (rw add-sub_cancel_left at s.1))
