use mathlib.Core.Path.{◌≡◌}
use Rattle.proxy_filter.proofs.Turns.{Turn}
use Rattle.proxy_filter.proofs.Filter.change_all.Given as goal

abbrev pub invariant-loop-address : goal.invariant-loop-address
invariant-loop-address l = (l.address-iterator.size ≡ 2) × Turn l.initial.self l.change l.octets l.self l.address-iterator.rest.now
