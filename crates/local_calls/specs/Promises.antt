-- What a local call hands back are the records that the next call is stated of, and its answer. The proof is `proofs/Promises.antt`.
use Rattle.std.specs.Prelude.{List, ◌≡◌, Result}
use Rattle.links.specs.declared.Answer.{Answer}
use Rattle.links.specs.declared.Refusal.{Refusal}
use Rattle.links.specs.declared.Link.{Link}
use Rattle.local_calls.specs.Calls.{called_of}

abbrev pub HandsBack : Type 0
HandsBack = (r : Result Answer Refusal × List Link) → ((called_of r).answer, (called_of r).links) ≡ r
