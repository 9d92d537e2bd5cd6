-- The calls of a device's end: the rules of `links` over its one record and the lent area.
use Rattle.std.specs.Prelude.{List, get_or, Result}
use Rattle.links.specs.declared.Answer.{Answer}
use Rattle.links.specs.declared.Refusal.{Refusal}
use Rattle.transactions.specs.declared.Socket.{Socket}
use Rattle.links.specs.Station.{Station, no_link}
use Rattle.links.specs.declared.Link.{Link}
use Rattle.link_steps.specs.declared.Stepped.{Stepped}

-- the one record, for the local calls: that of socket 1 of one
abbrev pub only_socket : Socket
only_socket = record { 0 = 1 }

-- the record and the answer that a receiving call hands back
abbrev pub handed_back : Result Answer Refusal × Station → Stepped
handed_back r = record { link = get_or r.1.links 0 no_link; answer = r.0 }

-- and a local call
abbrev pub record_back : Result Answer Refusal × List Link → Stepped
record_back r = record { link = get_or r.1 0 no_link; answer = r.0 }
