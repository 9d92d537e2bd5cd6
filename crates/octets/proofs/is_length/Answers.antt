use Rattle.octets.proofs.Tests.{tests}
use Rattle.octets.proofs.is_length.Goals as goal

pub returns-then-count-ge1 : goal.returns-then-count-ge1
returns-then-count-ge1 c = search tests

pub returns-else-count-ge1 : goal.returns-else-count-ge1
returns-else-count-ge1 c = search tests
