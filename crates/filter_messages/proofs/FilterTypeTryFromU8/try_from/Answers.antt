use mathlib.Core.Path.{refl}
use Rattle.octets.proofs.Tests.{tests}
use Rattle.filter_messages.proofs.FilterTypeTryFromU8.try_from.Goals as goal

pub returns-in-0 : goal.returns-in-0
returns-in-0 c = rw c.in-0.is refl

pub returns-in-1 : goal.returns-in-1
returns-in-1 c = rw c.in-1.is refl

pub returns-in_default : goal.returns-in_default
returns-in_default c = search tests
