-- What a call hands back of the eight records.
use Rattle.std.specs.Prelude.{ℕ, List, set, Result, Err}
use Rattle.links.specs.declared.Answer.{Answer}
use Rattle.links.specs.declared.Link.{Link}
use Rattle.links.specs.declared.Refusal.{Refusal}
use Rattle.link_records.specs.declared.Received.{Received}

-- a refusal, and nothing changed
abbrev pub call_refused : List Link → Refusal → Received
call_refused links r = record { links = links; answer = Err r }

-- another record at place s, if there is such a place, and an answer
abbrev pub stored : List Link → ℕ → Link → Result Answer Refusal → Received
stored links s link answer = record { links = set links s link; answer = answer }
