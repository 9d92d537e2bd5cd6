-- The receiving call of an eight-socket station, as the provisioner's end: the rules of `links` over its records and the lent area.
use Rattle.std.specs.Prelude.{ℕ, ◌*◌, List, Option, Some, None, Result}
use Rattle.links.specs.declared.Answer.{Answer}
use Rattle.links.specs.declared.Refusal.{Refusal}
use Rattle.octets.specs.Parts.{part}
use Rattle.links.specs.Links.{provisioner}
use Rattle.links.specs.Segments.{OneLink}
use Rattle.links.specs.Station.{Station, received}
use Rattle.links.specs.declared.Side.TheVariants.{Provisioner}
use Rattle.links.specs.declared.Link.{Link}
use Rattle.link_records.specs.declared.Received.{Received}
use Rattle.link_steps.specs.Calls.{one_link, link_received}

-- the records and the lent area together
abbrev pub station_of : List Link → List ℕ → Station
station_of links area = record { links = links; area = area }

-- receiving a frame
abbrev pub receiving : List Link → List ℕ → List ℕ → Result Answer Refusal × Station
receiving links area f = received provisioner (station_of links area) f

-- the records and the answer that a receiving call hands back
abbrev pub received_of : Result Answer Refusal × Station → Received
received_of r = record { links = r.1.links; answer = r.0 }

-- a frame at a link that has the part of place s of the area
abbrev pub step_at : Link → List ℕ → List ℕ → ℕ → Result Answer Refusal × OneLink
step_at link area f s = link_received Provisioner (one_link link (part area (1469 * s) 1469)) f

-- the place of the record that is found, or else the first
abbrev pub place_of : Option ℕ → ℕ
place_of (Some s) = s
place_of None = 0
