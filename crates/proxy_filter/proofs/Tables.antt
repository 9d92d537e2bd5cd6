-- The tables of `specs/Tables.antt`.
use Prim.Native.Nat.{ℕ}
use mathlib.Core.Bool.{◌||◌, not, cond}
use mathlib.Core.List.{List, [], ◌∷◌, ◌++◌}
use mathlib.Core.Option.{some, none}
use mathlib.Core.Path.{◌≡◌, refl, ap, ◌∙◌}
use lib.Dec.{leb, ltb, eqb}
use lib.ListN.{drop}
use Rattle.std.specs.Prelude.{Option, Some, None, is_some, Result, Ok}
use Rattle.filter_messages.specs.declared.FilterRefusal.{FilterRefusal}
use Rattle.octets.specs.Told.{refused, answered}
use Rattle.octets.specs.Tables.{first_of}
use Rattle.octets.proofs.Tables.{by-table, first-behind, first-before}
use Rattle.octets.proofs.Tests.{cases, lt_not_le, not-both}
use Rattle.filter_messages.specs.Messages.{request_of, refusal_number, told}
use Rattle.filter_messages.specs.Tables.{message_refusals}
use Rattle.filter_messages.specs.declared.FilterType.{FilterType}
use Rattle.filter_messages.specs.declared.FilterType.TheVariants.{AcceptList, RejectList}
use Rattle.filter_messages.specs.declared.Request.{Request}
use Rattle.filter_messages.proofs.Tables.{Asks, refuses, sets, changes, asks}
use Rattle.filter_entries.specs.Entries.{find}
use Rattle.filter_entries.specs.Changes.{changed_all}
use Rattle.filter_entries.proofs.Lookup.{on-found}
use Rattle.filter_entries.proofs.Bad.{bad-entries}
use Rattle.proxy_filter.specs.Filters.{held, holding, is_good}
use Rattle.proxy_filter.specs.Calls.{addresses, reporting, performed, controlled, is_unicast, learned, pass_answer, passing, pass_told}
use Rattle.proxy_filter.specs.Tables.{BadFilters, status_row, control_rows, ControlTable, learn_rows, LearnTable, list_passes, pass_rows, PassTable}
use Rattle.proxy_filter.specs.declared.Filter.{Filter}
use Rattle.proxy_filter.proofs.Holding.{held-holding, count-holding}

pub bad-filters : BadFilters
unfolding is_good
bad-filters f = bad-entries f.count f.entries

status-told : (kind : FilterType) (l : List ℕ) → (status_row (holding kind l)).answer ≡ told (reporting (holding kind l)).answer
status-told kind l = rw (held-holding kind l, count-holding kind l)

-- ---- a message

status-behind : (m : List ℕ) (kind : FilterType) (l : List ℕ) → first_of (message_refusals m) ≡ none
    → first_of (message_refusals m ++ (status_row (holding kind l) ∷ [])) ≡ some (told (reporting (holding kind l)).answer)
status-behind m kind l e = first-behind (message_refusals m) (status_row (holding kind l) ∷ []) e ∙ ap some (status-told kind l)

first-row : (f : Filter) (m : List ℕ) (q : Result Request FilterRefusal) → Asks m q
    → first_of (message_refusals m ++ (status_row (performed f m q).filter ∷ [])) ≡ some (told (performed f m q).answer)
first-row f m q (refuses r e) = first-before (message_refusals m) (status_row f ∷ []) (refused (refusal_number r)) e
first-row f m q (sets kind e o t) = status-behind m kind [] e
first-row f m q (changes c e o) = status-behind m f.kind (changed_all c (held f) (addresses (drop 1 m))) e

pub control-table : ControlTable
unfolding controlled
control-table f m =
    by-table (told (controlled f m).answer) (control_rows f m) refl
    (cases (is_good f) (λ g. rw g (first-row f m (request_of m) (asks m))) (λ g. rw g))

-- ---- a source learned

not-unicast : (s : ℕ) → (ltb s 0x0001 || ltb 0x7FFF s) ≡ not (is_unicast s)
not-unicast s = rw (lt_not_le s 0x0001, lt_not_le 0x7FFF s, not-both (leb 0x0001 s) (leb s 0x7FFF))

pub learn-table : LearnTable
unfolding learned
learn-table f s =
    by-table (told (learned f s).answer) (learn_rows f s) refl
    (rw (not-unicast s)
    (cases (is_good f)
    (λ g. rw g (cases (is_unicast s) (λ u. rw u (ap some (status-told f.kind _))) (λ u. rw u)))
    (λ g. rw g)))

-- ---- the pass decision

passes-first : (kind : FilterType) (p : Option ℕ)
    → cond (list_passes kind (is_some p)) (some (answered "passes" [])) (some (answered "does not pass" [])) ≡ some (pass_told (Ok (pass_answer kind p)))
passes-first AcceptList (Some p) = refl
passes-first AcceptList None = refl
passes-first RejectList (Some p) = refl
passes-first RejectList None = refl

pub pass-table : PassTable
unfolding passing
pass-table f d =
    by-table (pass_told (passing f d)) (pass_rows f d) refl
    (cases (is_good f)
    (λ g. rw g (cases (eqb d 0) (λ z. rw z) (λ z. rw (z, on-found (held f) d 0) (passes-first f.kind (find (held f) d)))))
    (λ g. rw g))
