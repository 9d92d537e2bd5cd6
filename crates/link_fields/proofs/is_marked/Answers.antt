-- The shift by definition; bit 64 and on are not set (`past-marks`).
use borrow.Author.Rules.{rules}
use borrow.Author.Tests.{le-ltb}
use mathlib.Core.Path.{sym}
use native.Mathlib.Omega.{arith}
use Rattle.link_fields.proofs.Bits.{past-marks}
use Rattle.links.specs.Marks.{is_marked}
use Rattle.link_fields.proofs.is_marked.Goals as goal

pub returns-else-k-lt64 : goal.returns-else-k-lt64
returns-else-k-lt64 c = rw (le-ltb c.args.k 64 (omega arith)) (sym (past-marks c.args.marks c.args.k (omega arith) (omega arith)))

pub returns-then-k-lt64 : goal.returns-then-k-lt64
unfolding is_marked
returns-then-k-lt64 c = search rules
