use Rattle.import_frames.specs.Heard.{heard_step, heard_area}
use Rattle.import_frames.proofs.heard.take_heard.Goals as goal

pub returns : goal.returns
unfolding heard_step heard_area
returns c =
    let w = c.receive-called.ensures in
    let t = rw (c.outcome_of.ensures, c.with_links.ensures, w.0, w.1) at c.tell_heard.ensures in
    (t, w.1)
