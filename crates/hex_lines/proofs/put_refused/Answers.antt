-- `copy` answers whether the four octets fit, which is the definition's test.
use lib.Dec.{leb}
use lib.ListN.{length}
use mathlib.Core.Path.{◌≡◌, sym, ◌∙◌}
use Rattle.octets.specs.Writing.{written}
use Rattle.octets.proofs.Writing.{copy-fits, copy_writes}
use Rattle.hex_lines.specs.Lines.{refused_text}
use Rattle.hex_lines.proofs.put_refused.Goals as goal
use Rattle.hex_lines.proofs.put_refused.Goals.{After-copy}

fits : (c : After-copy) → leb 4 (length c.args.output.now) ≡ c.copy.result
fits c = sym (copy-fits refused_text c.args.output.now) ∙ sym c.copy.ensures.0

pub returns-then-copy : goal.returns-then-copy
unfolding written
returns-then-copy c = (rw (fits (goal.at.returns-then-copy c).After-copy, c.if-copy.true), c.copy.ensures.1 ∙ copy_writes refused_text _)

pub returns-else-copy : goal.returns-else-copy
unfolding written
returns-else-copy c = (rw (fits (goal.at.returns-else-copy c).After-copy, c.if-copy.false), c.copy.ensures.1 ∙ copy_writes refused_text _)
