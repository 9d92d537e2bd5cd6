-- The tests of `open_step`, in their order; the UUID is compared in its place (`own-compared`).
use borrow.Author.Tests.{eq-eqb, ne_eqb}
use mathlib.Core.Path.{◌∙◌, sym}
use Rattle.links.specs.Station.{open_step}
use Rattle.device.proofs.Laws.{own-compared}
use Rattle.device.proofs.on_open.Goals as goal

pub returns-then-not-same_part : goal.returns-then-not-same_part
unfolding open_step
returns-then-not-same_part c =
    let a = c.args in
    let q = c.requires in
    let e = sym (own-compared a.own.now a.frame.now a.uuid q.0 q.1) ∙ sym c.same_part.ensures in
    simp (e, c.if-not-same_part.true, c.refuse_link.ensures)

pub returns-then-not-is_in_use : goal.returns-then-not-is_in_use
unfolding open_step
returns-then-not-is_in_use c =
    let a = c.args in
    let q = c.requires in
    let e = sym (own-compared a.own.now a.frame.now a.uuid q.0 q.1) ∙ sym c.same_part.ensures in
    simp (e, c.if-not-same_part.false, ← c.is_in_use.ensures, c.if-not-is_in_use.true, c.blank_with.ensures)

pub returns-then-link-id : goal.returns-then-link-id
unfolding open_step
returns-then-link-id c =
    let a = c.args in
    let q = c.requires in
    let e = sym (own-compared a.own.now a.frame.now a.uuid q.0 q.1) ∙ sym c.same_part.ensures in
    simp (e, c.if-not-same_part.false, ← c.is_in_use.ensures, c.if-not-is_in_use.false, ne_eqb a.link.id a.id c.if-link-id.true, c.refuse_link-then-link-id.ensures)

pub returns : goal.returns
unfolding open_step
returns c =
    let a = c.args in
    let q = c.requires in
    let e = sym (own-compared a.own.now a.frame.now a.uuid q.0 q.1) ∙ sym c.same_part.ensures in
    simp (e, c.if-not-same_part.false, ← c.is_in_use.ensures, c.if-not-is_in_use.false, eq-eqb a.link.id a.id c.if-link-id.false)
