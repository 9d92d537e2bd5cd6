use native.Mathlib.Omega.{arith}
use Rattle.import_capabilities.proofs.Laws.{no_text}
use Rattle.import_capabilities.proofs.write_report.Goals as goal

pub returns-in_default : goal.returns-in_default
returns-in_default c = let n = no_text c.args.output.now in rw c.in_default.is (n.0, n.1, omega arith)

pub returns : goal.returns
returns c = rw c.in-Some.is c.write_row.ensures
