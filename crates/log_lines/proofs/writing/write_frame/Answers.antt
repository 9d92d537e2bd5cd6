use borrow.Author.Tests.{le-leb, lt-leb, eqb-true, eqb-false}
use native.Mathlib.Omega.{arith}
use mathlib.Core.Path.{sym, ◌∙◌}
use lib.ListN.{length}
use Rattle.octets.proofs.Writing.{output-wrong}
use Rattle.log_lines.proofs.writing.write_frame.Goals as goal

pub returns-then-is_empty : goal.returns-then-is_empty
returns-then-is_empty c =
    let none = eqb-true _ _ (sym c.is_empty.ensures ∙ c.if-is_empty.true) in
    output-wrong _ _ c.args.output.now (lt-leb 1 (length c.args.frame.now) (omega arith))

pub returns : goal.returns
returns c =
    let some = eqb-false _ _ (sym c.is_empty.ensures ∙ c.if-is_empty.false) in
    rw (le-leb 1 (length c.args.frame.now) (omega arith)) c.write_line.ensures
