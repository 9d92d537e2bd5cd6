-- The calls on a filter, in document 01's order.
use Rattle.std.specs.Prelude.{ℕ, ◌+◌, ◌*◌, Bool, true, false, ◌&&◌, cond, List, [], ◌∷◌, leb, eqb, drop, Option, Some, None, Result, Ok, Err}
use Rattle.octets.specs.Told.{Told, refused, answered}
use Rattle.filter_messages.specs.Messages.{refusal_number, request_of}
use Rattle.filter_messages.specs.declared.FilterType.{FilterType}
use Rattle.filter_messages.specs.declared.FilterType.TheVariants.{AcceptList, RejectList}
use Rattle.filter_messages.specs.declared.Change.{Change}
use Rattle.filter_messages.specs.declared.Change.TheVariants.{Add, Remove}
use Rattle.filter_messages.specs.declared.Request.{Request}
use Rattle.filter_messages.specs.declared.Request.TheVariants as Q
use Rattle.filter_messages.specs.declared.FilterRefusal.{FilterRefusal}
use Rattle.filter_messages.specs.declared.FilterRefusal.TheVariants as R
use Rattle.filter_entries.specs.Entries.{find}
use Rattle.filter_entries.specs.Changes.{changed, changed_all}
use Rattle.proxy_filter.specs.Filters.{held, holding, is_good}
use Rattle.proxy_filter.specs.declared.Filter.{Filter}
use Rattle.proxy_filter.specs.declared.FilterStep.{FilterStep}

-- the addresses in octets, two octets each
abbrev pub addresses : List ℕ → List ℕ
addresses [] = []
addresses (x ∷ []) = []
addresses (x ∷ y ∷ o) = (x * 256 + y) ∷ addresses o

-- ---- answers

-- a refusal, with the filter as it was
abbrev pub refusing : Filter → FilterRefusal → FilterStep
refusing f r = record { filter = f; answer = Err r }

-- a filter with its status
abbrev pub reporting : Filter → FilterStep
reporting f = record { filter = f; answer = Ok (record { kind = f.kind; count = f.count }) }

-- "New: accept list, empty."
abbrev pub new : Filter
new = holding AcceptList []

-- what is asked for, done: opcode 0 "sets the type .. and empties"
abbrev pub performed : Filter → List ℕ → Result Request FilterRefusal → FilterStep
performed f m (Ok (Q.SetType kind)) = reporting (holding kind [])
performed f m (Ok (Q.Change c)) = reporting (holding f.kind (changed_all c (held f) (addresses (drop 1 m))))
performed f m (Err r) = refusing f r

-- A MESSAGE
unfoldable pub controlled : Filter → List ℕ → FilterStep
controlled f m = cond (is_good f) (performed f m (request_of m)) (refusing f R.BadState)

-- ---- a source address is "added to an accept list, removed from a reject list, with the same skips"

-- what is done with a source address
abbrev pub change_for : FilterType → Change
change_for AcceptList = Add
change_for RejectList = Remove

-- "A source address 0x0001 to 0x7FFF (else 35)"
abbrev pub is_unicast : ℕ → Bool
is_unicast a = leb 0x0001 a && leb a 0x7FFF

-- A SOURCE LEARNED
unfoldable pub learned : Filter → ℕ → FilterStep
learned f source =
    cond (is_good f)
    (cond (is_unicast source)
    (reporting (holding f.kind (changed (change_for f.kind) (held f) source)))
    (refusing f R.NotUnicast))
    (refusing f R.BadState)

-- ---- "A destination passes an accept list if it is on it, a reject list if it isn't; 0x0000 never passes"

-- by the place at which the destination was found
abbrev pub pass_answer : FilterType → Option ℕ → Bool
pass_answer AcceptList (Some p) = true
pass_answer AcceptList None = false
pass_answer RejectList (Some p) = false
pass_answer RejectList None = true

-- THE PASS DECISION
unfoldable pub passing : Filter → ℕ → Result Bool FilterRefusal
passing f destination =
    cond (is_good f)
    (cond (eqb destination 0) (Ok false) (Ok (pass_answer f.kind (find (held f) destination))))
    (Err R.BadState)

-- document 01's number and words
abbrev pub pass_told : Result Bool FilterRefusal → Told
pass_told (Ok true) = answered "passes" []
pass_told (Ok false) = answered "does not pass" []
pass_told (Err r) = refused (refusal_number r)
