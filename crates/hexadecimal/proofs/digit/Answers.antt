-- The definition's test has the value that the branch showed.
use Rattle.hexadecimal.specs.Hex.{digit_of}
use Rattle.octets.proofs.Tests.{tests}
use Rattle.hexadecimal.proofs.digit.Goals as goal

pub returns-then-half-le9 : goal.returns-then-half-le9
unfolding digit_of
returns-then-half-le9 c = search tests

pub returns-else-half-le9 : goal.returns-else-half-le9
unfolding digit_of
returns-else-half-le9 c = search tests
