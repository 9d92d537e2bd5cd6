-- The local calls of an eight-socket station, as the provisioner's end: the rules of `links` over its records.
use Rattle.std.specs.Prelude.{List, Result}
use Rattle.links.specs.declared.Answer.{Answer}
use Rattle.links.specs.declared.Refusal.{Refusal}
use Rattle.links.specs.declared.Link.{Link}
use Rattle.link_records.specs.declared.Received.{Received}

-- the records and the answer that a local call hands back
abbrev pub called_of : Result Answer Refusal × List Link → Received
called_of r = record { links = r.1; answer = r.0 }
