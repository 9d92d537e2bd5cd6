-- 14, then the record's step.
use mathlib.Core.Path.{◌∙◌, sym}
use Rattle.links.specs.Station.{close_step}
use Rattle.links.specs.declared.Side.TheVariants.{Device}
use Rattle.device.proofs.Laws.{closed-as, judged-bad, judged-right}
use Rattle.device.proofs.close.Goals as goal

pub returns-then-not-is_good_link : goal.returns-then-not-is_good_link
returns-then-not-is_good_link c =
    let l = c.args.link in
    c.refuse_link.ensures ∙ sym (closed-as l ∙ judged-bad l (close_step Device l) (sym c.is_good_link.ensures ∙ c.if-not-is_good_link.true))

pub returns : goal.returns
returns c =
    let l = c.args.link in
    c.close.ensures ∙ sym (closed-as l ∙ judged-right l (close_step Device l) (sym c.is_good_link.ensures ∙ c.if-not-is_good_link.false))
