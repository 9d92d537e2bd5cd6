use borrow.Author.Tests.{eq-eqb}
use mathlib.Core.List.{append-nil}
use Rattle.octets.proofs.Tests.{tests}
use Rattle.pb_adv.specs.Frame.{open_octets}
use Rattle.octets.specs.Writing.{written, output_after}
use Rattle.control_writing.proofs.write_open.Goals as goal

pub returns-then-uuid-ne16 : goal.returns-then-uuid-ne16
unfolding written output_after
returns-then-uuid-ne16 c = search tests

pub returns : goal.returns
unfolding open_octets
returns c =
    let a = c.args in
    rw (eq-eqb _ _ c.if-uuid-ne16.false) (rw (append-nil a.uuid.now) at c.write_frame.ensures)
