use borrow.Author.Tests.{eq-eqb, ne_eqb}
use Rattle.fcs.specs.Fcs.{bit_step}
use Rattle.fcs.proofs.bit_step.Goals as goal

pub returns-then-x-eq1 : goal.returns-then-x-eq1
unfolding bit_step
returns-then-x-eq1 c = search eq-eqb

pub returns-else-x-eq1 : goal.returns-else-x-eq1
unfolding bit_step
returns-else-x-eq1 c = search ne_eqb
