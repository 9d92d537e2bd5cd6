use Rattle.import_log.proofs.new_log.Goals as goal

pub returns : goal.returns
returns c = rw c.new_tray.ensures
