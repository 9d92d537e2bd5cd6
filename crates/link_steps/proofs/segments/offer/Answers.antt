-- The refusals by their tests; a right segment is in already or new (`offered-in`, `offered-new`).
use borrow.Author.Rules.{rules}
use borrow.Author.Tests.{le-leb, lt-leb, ne_eqb}
use lib.ListN.{length}
use mathlib.Core.Path.{◌≡◌, ◌∙◌, sym}
use Rattle.links.specs.Segments.{offered}
use Rattle.transactions.specs.Segments.{segment_length}
use Rattle.link_steps.proofs.Laws.{offered-in, offered-new}
use Rattle.link_steps.specs.Calls.{one_link}
use Rattle.link_steps.specs.Steps.{EnterAsks}
use Rattle.link_steps.proofs.segments.offer.Goals as goal

pub returns-then-last_segment-index : goal.returns-then-last_segment-index
unfolding offered
returns-then-last_segment-index c = let e = lt-leb _ _ c.if-last_segment-index.true in (simp (c.refuse_link.ensures, ← c.last_segment.ensures, e), simp (← c.last_segment.ensures, e))

pub returns-then-octets-segment_length : goal.returns-then-octets-segment_length
unfolding offered
returns-then-octets-segment_length c =
    let e = le-leb _ _ c.if-last_segment-index.false in
    let n = ne_eqb _ _ c.if-octets-segment_length.true in
    (simp (c.refuse_link-then-octets-segment_length.ensures, ← c.last_segment.ensures, e, ← c.segment_length.ensures, n), simp (← c.last_segment.ensures, e, ← c.segment_length.ensures, n))

pub returns-then-is_marked : goal.returns-then-is_marked
returns-then-is_marked c =
    let a = c.args in
    let q : EnterAsks a.message a.index a.part.now a.octets.now = search rules in
    let full : length a.octets.now ≡ segment_length a.message.length a.index = search rules in
    let o = offered-in (one_link a.link a.part.now) a.message a.index a.octets.now q full (sym c.is_marked.ensures ∙ c.if-is_marked.true) in
    (simp c.compare-answer.ensures (sym o.0), sym o.1)

pub returns : goal.returns
returns c =
    let a = c.args in
    let q : EnterAsks a.message a.index a.part.now a.octets.now = search rules in
    let full : length a.octets.now ≡ segment_length a.message.length a.index = search rules in
    let o = offered-new (one_link a.link a.part.now) a.message a.index a.octets.now q full (sym c.is_marked.ensures ∙ c.if-is_marked.false) in
    (simp (o, c.enter.ensures.0), simp (o, c.enter.ensures.1))
