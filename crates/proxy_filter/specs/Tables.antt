-- The tables of the calls on a filter, to be held beside document 01. The rows of a message's refusals are those of `filter_messages`. The proofs are
-- `proofs/Tables.antt`.
use Rattle.std.specs.Prelude.{ℕ, Bool, true, ◌&&◌, ◌||◌, not, List, [], ◌∷◌, ◌++◌, ◌↔◌, ◌≡◌, ltb, eqb, length}
use Rattle.octets.specs.Numbers.{octets16}
use Rattle.octets.specs.Tables.{Row, refusal, reply, ByTable}
use Rattle.filter_messages.specs.Messages.{type_number, told}
use Rattle.filter_messages.specs.Tables.{message_refusals}
use Rattle.filter_messages.specs.declared.FilterType.{FilterType}
use Rattle.filter_messages.specs.declared.FilterType.TheVariants.{AcceptList, RejectList}
use Rattle.filter_entries.specs.Entries.{is_on}
use Rattle.filter_entries.specs.Bad.{NotBad}
use Rattle.proxy_filter.specs.Filters.{held, is_good}
use Rattle.proxy_filter.specs.Calls.{controlled, learned, passing, pass_told}
use Rattle.proxy_filter.specs.declared.Filter.{Filter}

-- 14: "a filter of over 16 addresses, with a repeat or 0x0000, or not 0 past its count"; the sentences are those of `NotBad`
abbrev pub bad_row : Filter → Row
bad_row f = refusal 14 (not (is_good f))

abbrev pub BadFilters : Type 0
BadFilters = (f : Filter) → (is_good f ≡ true) ↔ NotBad f.count f.entries

-- "The answer is 03, type, count in two octets.", of the filter handed back
abbrev pub status_row : Filter → Row
status_row f = reply "status" (0x03 ∷ type_number f.kind ∷ octets16 (length (held f))) true

-- ---- a message

abbrev pub control_rows : Filter → List ℕ → List Row
control_rows f m = bad_row f ∷ message_refusals m ++ (status_row (controlled f m).filter ∷ [])

abbrev pub ControlTable : Type 0
ControlTable = (f : Filter) (m : List ℕ) → ByTable (told (controlled f m).answer) (control_rows f m)

-- ---- a source learned

-- "A source address 0x0001 to 0x7FFF (else 35)"
abbrev pub learn_rows : Filter → ℕ → List Row
learn_rows f source =
    bad_row f
    ∷ refusal 35 (ltb source 0x0001 || ltb 0x7FFF source)
    ∷ status_row (learned f source).filter
    ∷ []

abbrev pub LearnTable : Type 0
LearnTable = (f : Filter) (source : ℕ) → ByTable (told (learned f source).answer) (learn_rows f source)

-- ---- the pass decision

-- "A destination passes an accept list if it is on it, a reject list if it isn't"
abbrev pub list_passes : FilterType → Bool → Bool
list_passes AcceptList on = on
list_passes RejectList on = not on

-- "0x0000 never passes"
abbrev pub pass_rows : Filter → ℕ → List Row
pass_rows f destination =
    bad_row f
    ∷ reply "passes" [] (not (eqb destination 0) && list_passes f.kind (is_on (held f) destination))
    ∷ reply "does not pass" [] true
    ∷ []

abbrev pub PassTable : Type 0
PassTable = (f : Filter) (destination : ℕ) → ByTable (pass_told (passing f destination)) (pass_rows f destination)
