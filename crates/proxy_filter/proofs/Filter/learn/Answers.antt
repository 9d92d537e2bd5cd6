use Rattle.proxy_filter.specs.Calls.{learned}
use Rattle.proxy_filter.proofs.Filter.learn.Goals as goal

pub returns-then-not-is_good : goal.returns-then-not-is_good
unfolding learned
returns-then-not-is_good c = simp (← c.is_good.ensures, c.if-not-is_good.true) c.refuse.ensures

pub returns-then-not-is_unicast : goal.returns-then-not-is_unicast
unfolding learned
returns-then-not-is_unicast c =
    simp (← c.is_good.ensures, c.if-not-is_good.false, ← c.is_unicast.ensures, c.if-not-is_unicast.true) c.refuse-then-not-is_unicast.ensures

pub returns : goal.returns
unfolding learned
returns c =
    simp (
      ← c.is_good.ensures,
      c.if-not-is_good.false,
      ← c.is_unicast.ensures,
      c.if-not-is_unicast.false,
      c.report.ensures,
      c.change_one.ensures,
      c.change_for.ensures,
    )
