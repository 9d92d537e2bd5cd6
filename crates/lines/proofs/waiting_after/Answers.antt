use Rattle.std.proofs.Common.{arith}
use Rattle.std.proofs.lemmas.Grind.{common_steps}
use Rattle.lines.specs.Streams.{waiting_after}
use Rattle.lines.proofs.waiting_after.Goals as goal

pub returns-in-Some : goal.returns-in-Some
unfolding waiting_after
returns-in-Some c = grind (arith, common_steps)

pub returns-in-Some-2 : goal.returns-in-Some-2
unfolding waiting_after
returns-in-Some-2 c = grind (arith, common_steps)

pub returns-in-None : goal.returns-in-None
unfolding waiting_after
returns-in-None c = grind (arith, common_steps)
