use Rattle.pb_adv.specs.Frame.{ack_octets}
use Rattle.control_writing.proofs.write_ack.Goals as goal

pub returns : goal.returns
unfolding ack_octets
returns c = c.write_frame.ensures
