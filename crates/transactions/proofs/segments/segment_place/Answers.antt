use mathlib.Core.Path.{sym}
use native.Mathlib.Omega.{arith}
use Rattle.octets.proofs.Cut.{place-further}
use Rattle.transactions.proofs.segments.segment_place.Goals as goal

pub returns-else-index-eq0 : goal.returns-else-index-eq0
returns-else-index-eq0 c = sym (place-further 20 23 c.args.index (omega arith))
