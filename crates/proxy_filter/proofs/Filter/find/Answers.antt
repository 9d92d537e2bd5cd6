use Rattle.proxy_filter.proofs.Holding.{good-count}
use Rattle.proxy_filter.proofs.Filter.find.Goals as goal

pub shared_ref_as_front-find_from : goal.shared_ref_as_front-find_from
shared_ref_as_front-find_from c = good-count c.args.self c.requires
