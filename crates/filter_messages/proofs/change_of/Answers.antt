use Rattle.octets.proofs.Tests.{tests}
use Rattle.filter_messages.specs.Messages.{change_of}
use Rattle.filter_messages.proofs.change_of.Goals.{else-octets-le32-via-then-octets-le32+else-octets-eq0, else-octets-le32-via-else-octets-le32}
use Rattle.filter_messages.proofs.change_of.Goals as goal

pub returns-then-octets-eq0 : goal.returns-then-octets-eq0
unfolding change_of
returns-then-octets-eq0 c = search tests

pub returns-else-octets-le32 : goal.returns-else-octets-le32
unfolding change_of
returns-else-octets-le32 c = elim c.else-octets-le32.branch [ else-octets-le32-via-then-octets-le32+else-octets-eq0 w ↦ search tests | else-octets-le32-via-else-octets-le32 w ↦ search tests ]
