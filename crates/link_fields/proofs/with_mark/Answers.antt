-- A one shifted by at most 63 is a power of two (`one_shifted`).
use borrow.Author.Tests.{le-leb, lt-leb}
use native.Mathlib.Omega.{arith}
use Rattle.link_fields.proofs.Bits.{one_shifted}
use Rattle.links.specs.Marks.{with_mark}
use Rattle.link_fields.proofs.with_mark.Goals as goal

pub returns-then-k-le63 : goal.returns-then-k-le63
unfolding with_mark
returns-then-k-le63 c =
    let k = c.args.k in
    rw (le-leb k 63 c.if-k-le63.true, one_shifted k (omega arith))

pub returns-else-k-le63 : goal.returns-else-k-le63
returns-else-k-le63 c = rw (lt-leb c.args.k 63 c.if-k-le63.false)
