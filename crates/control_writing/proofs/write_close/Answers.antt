use Rattle.pb_adv.specs.Frame.{close_octets}
use Rattle.control_writing.proofs.write_close.Goals as goal

pub returns : goal.returns
unfolding close_octets
returns c = c.write_frame.ensures
