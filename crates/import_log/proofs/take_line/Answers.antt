use Rattle.import_log.proofs.take_line.Goals as goal

pub returns : goal.returns
returns c =
    let w = rw c.next_number-number.ensures at c.import_line-step.ensures in
    (rw (w.0, c.next_number-number.ensures), w.1)
