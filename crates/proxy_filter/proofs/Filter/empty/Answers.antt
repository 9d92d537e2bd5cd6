use Rattle.proxy_filter.specs.Filters.{holding}
use mathlib.Core.Path.{refl}
use Rattle.proxy_filter.proofs.Filter.empty.Goals as goal

pub returns : goal.returns
unfolding holding
returns c = refl
