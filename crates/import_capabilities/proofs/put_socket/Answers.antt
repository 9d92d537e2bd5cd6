use Rattle.import_capabilities.proofs.put_socket.Goals as goal

pub returns : goal.returns
returns g c = rw c.last_report-report.ensures at c.put_report.ensures
