use lib.ListN.{get_or-eq_default}
use mathlib.Core.Path.{sym}
use native.Mathlib.Omega.{arith}
use Rattle.octets.proofs.octet_at.Goals as goal

pub returns-else-at-octets : goal.returns-else-at-octets
returns-else-at-octets c = sym (get_or-eq_default c.args.octets.now 0 (omega arith))
