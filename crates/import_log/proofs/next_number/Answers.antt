use borrow.Author.Tests.{lt-ltb, le-ltb}
use Rattle.import_log.proofs.next_number.Goals as goal

pub returns-then-lines-lt18446744073709551615 : goal.returns-then-lines-lt18446744073709551615
returns-then-lines-lt18446744073709551615 c = rw (lt-ltb _ _ c.if-lines-lt18446744073709551615.true)

pub returns-else-lines-lt18446744073709551615 : goal.returns-else-lines-lt18446744073709551615
returns-else-lines-lt18446744073709551615 c = rw (le-ltb _ _ c.if-lines-lt18446744073709551615.false)
