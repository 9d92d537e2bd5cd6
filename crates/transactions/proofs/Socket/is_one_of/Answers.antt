use Rattle.octets.proofs.Tests.{tests}
use Rattle.transactions.proofs.Socket.is_one_of.Goals as goal

pub returns-then-self-ge1 : goal.returns-then-self-ge1
returns-then-self-ge1 c = search tests

pub returns-else-self-ge1 : goal.returns-else-self-ge1
returns-else-self-ge1 c = search tests
