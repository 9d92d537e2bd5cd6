use mathlib.Core.Path.{refl}
use Rattle.script.specs.Script.{hash_step}
use Rattle.script.proofs.hash_step.Goals as goal

pub returns : goal.returns
unfolding hash_step
returns c = refl
