use lib.ListN.{drop}
use mathlib.Core.Path.{refl, sym, ◌∙◌}
use Rattle.filter_entries.proofs.Lookup.{by-position}
use Rattle.filter_entries.proofs.find_from.Goals as goal

pub returns-in_err-place : goal.returns-in_err-place
returns-in_err-place c =
    let a = c.args in
    rw (c.from_residual.ensures, by-position a.from (drop a.from a.held.now) a.address, sym c.place_past.ensures ∙ c.in_err-place.was) refl

pub returns : goal.returns
returns c =
    let a = c.args in
    rw (by-position a.from (drop a.from a.held.now) a.address, sym c.place_past.ensures ∙ c.in_ok-place.was) refl
