use Prim.Native.Nat.{◌-◌}
use borrow.Author.Tests.{leb-true}
use native.Mathlib.Omega.{arith}
use Rattle.octets.proofs.Tests.{tests}
use Rattle.octet_parts.proofs.fits.Goals as goal

pub returns-then-at-length : goal.returns-then-at-length
returns-then-at-length c = (search tests, λ e. let a = c.args in omega (arith, leb-true a.count (a.length - a.at) e))

pub returns-else-at-length : goal.returns-else-at-length
returns-else-at-length c = (search tests, λ e. let a = c.args in omega (arith, leb-true a.at a.length e))
