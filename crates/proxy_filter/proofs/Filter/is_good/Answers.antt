use Rattle.proxy_filter.specs.Filters.{is_good}
use Rattle.proxy_filter.proofs.Filter.is_good.Goals as goal

pub returns : goal.returns
unfolding is_good
returns c = c.is_good.ensures
