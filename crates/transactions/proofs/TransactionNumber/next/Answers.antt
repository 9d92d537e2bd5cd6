use mathlib.Core.Path.{ap}
use native.Mathlib.Omega.{arith}
use Rattle.transactions.specs.Promises.{number}
use Rattle.transactions.proofs.TransactionNumber.next.Goals as goal

pub returns : goal.returns
returns c = ap number (omega arith)
