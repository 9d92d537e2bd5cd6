use Rattle.import_frames.specs.Sent.{sent_step}
use Rattle.import_frames.proofs.sent.take_sent.Goals as goal

pub returns : goal.returns
unfolding sent_step
returns c =
    let p = c.parse-parsed.ensures in
    let f = rw p at c.find_record-found.ensures.0 in
    rw (c.take_asked.ensures, c.sent_of.ensures, c.frame_origin-origin.ensures, f, p)
