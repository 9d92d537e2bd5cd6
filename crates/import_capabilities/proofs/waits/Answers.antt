use Rattle.import_capabilities.proofs.waits.Goals as goal

pub returns : goal.returns
returns c = rw c.in-Ok.is c.add_waiting.ensures
