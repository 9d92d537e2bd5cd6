use Rattle.import_capabilities.proofs.whole_line.Goals as goal

pub returns : goal.returns
returns c = rw c.if-streams.false c.settle.ensures
