use Rattle.pb_adv.specs.Frame.{acknowledgement_octets}
use Rattle.pb_adv_writing.proofs.write_acknowledgement.Goals as goal

pub returns : goal.returns
unfolding acknowledgement_octets
returns c = c.write_frame.ensures
