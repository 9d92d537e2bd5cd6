-- The shift by definition; nothing is left of a shift by 64 or more (`shifted-out`).
use Prim.Native.Nat.{suc}
use native.Mathlib.Numerals.{add-one}
use native.Mathlib.Omega.{arith}
use borrow.Author.Tests.{le-leb}
use Rattle.link_fields.proofs.Bits.{shifted-out}
use Rattle.links.specs.Marks.{none_above}
use Rattle.link_fields.proofs.none_above.Goals as goal

pub returns-else-n-ge63 : goal.returns-else-n-ge63
unfolding none_above
returns-else-n-ge63 c = rw (add-one c.args.n)

pub returns-then-n-ge63 : goal.returns-then-n-ge63
unfolding none_above
returns-then-n-ge63 c = rw (le-leb 63 c.args.n (omega arith), shifted-out c.args.marks (suc c.args.n) (omega arith) (omega arith))
