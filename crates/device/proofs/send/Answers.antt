-- 11, 14, then the record's step.
use borrow.Author.Rules.{rules}
use mathlib.Core.Path.{◌∙◌, sym}
use Rattle.octets.proofs.Tests.{length-out}
use Rattle.links.specs.Station.{send_step}
use Rattle.device.proofs.Laws.{judged-bad, judged-right, judged-wrong, sent-as}
use Rattle.device.proofs.send.Goals as goal

pub overflow_cast-length : goal.overflow_cast-length
overflow_cast-length c =
    let e = sym c.is_length.ensures ∙ c.if-not-is_length.false in
    let h = length-out c.args.length e in
    search rules

pub returns-then-not-is_length : goal.returns-then-not-is_length
returns-then-not-is_length c =
    let a = c.args in
    let e = sym c.is_length.ensures ∙ c.if-not-is_length.true in
    c.refuse_link.ensures ∙ sym (sent-as a.link a.length ∙ rw e (judged-wrong a.link (send_step a.link a.length)))

pub returns-then-not-is_good_link : goal.returns-then-not-is_good_link
returns-then-not-is_good_link c =
    let a = c.args in
    let e = sym c.is_length.ensures ∙ c.if-not-is_length.false in
    c.refuse_link-then-not-is_good_link.ensures ∙ sym (sent-as a.link a.length ∙ rw e (judged-bad a.link (send_step a.link a.length) (sym c.is_good_link.ensures ∙ c.if-not-is_good_link.true)))

pub returns : goal.returns
returns c =
    let a = c.args in
    let e = sym c.is_length.ensures ∙ c.if-not-is_length.false in
    c.send.ensures ∙ sym (sent-as a.link a.length ∙ rw e (judged-right a.link (send_step a.link a.length) (sym c.is_good_link.ensures ∙ c.if-not-is_good_link.false)))
