use Rattle.fcs.specs.Fcs.{check_octet}
use Rattle.fcs.proofs.check_octet.Goals as goal

pub returns : goal.returns
unfolding check_octet
returns c = cc
