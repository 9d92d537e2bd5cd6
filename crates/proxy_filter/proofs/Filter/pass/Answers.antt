use borrow.Author.Tests.{eq-eqb, ne_eqb}
use Rattle.proxy_filter.specs.Calls.{passing}
use Rattle.proxy_filter.proofs.Filter.pass.Goals as goal

pub returns-then-not-is_good : goal.returns-then-not-is_good
unfolding passing
returns-then-not-is_good c = simp (← c.is_good.ensures, c.if-not-is_good.true)

pub returns-then-destination-eq0 : goal.returns-then-destination-eq0
unfolding passing
returns-then-destination-eq0 c = simp (← c.is_good.ensures, c.if-not-is_good.false, eq-eqb _ _ c.if-destination-eq0.true)

pub returns : goal.returns
unfolding passing
returns c =
    simp (
      ← c.is_good.ensures,
      c.if-not-is_good.false,
      ne_eqb _ _ c.if-destination-eq0.false,
      ← c.find.ensures,
      c.pass_answer.ensures,
    )
