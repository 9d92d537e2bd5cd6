-- By the place found: `append`, `remove_at`, or the filter as it was, which is the one that holds its list.
use borrow.Author.Rules.{rules}
use borrow.Author.Tests.{eq-eqb, ne_eqb}
use lib.ListN.{length}
use mathlib.Core.Path.{◌≡◌, sym, ◌∙◌}
use native.Mathlib.Omega.{arith}
use Rattle.filter_entries.specs.Changes.{changed}
use Rattle.filter_entries.proofs.Lookup.{found_below}
use Rattle.proxy_filter.proofs.Holding.{held-length, rebuilt}
use Rattle.proxy_filter.specs.Filters.{held}
use Rattle.proxy_filter.proofs.Filter.change_one.Goals as goal

pub returns-then-address-eq0 : goal.returns-then-address-eq0
unfolding changed
returns-then-address-eq0 c =
    let f = c.args.self in
    let n : length f.entries ≡ 16 = search rules in
    simp (eq-eqb _ _ c.if-address-eq0.true) (rebuilt f n c.requires)

pub returns-in-Add-None : goal.returns-in-Add-None
unfolding changed
returns-in-Add-None c =
    simp (
      ne_eqb _ _ c.if-address-eq0.false,
      ← c.find.ensures,
      c.in-Add-None.is-0,
      c.in-Add-None.is-1,
    ) c.append.ensures

pub remove_at-requires : goal.remove_at-requires
remove_at-requires c =
    let a = c.args in
    let good = c.requires in
    let n : length a.self.entries ≡ 16 = search rules in
    let found = sym c.find.ensures ∙ c.in-Remove-Some.is-1 in
    (good, omega (arith, found_below (held a.self) a.address _ found, held-length a.self n good))

pub returns-in-Remove-Some : goal.returns-in-Remove-Some
unfolding changed
returns-in-Remove-Some c =
    simp (
      ne_eqb _ _ c.if-address-eq0.false,
      ← c.find.ensures,
      c.in-Remove-Some.is-0,
      c.in-Remove-Some.is-1,
    ) c.remove_at.ensures

pub returns-in-Add-Some : goal.returns-in-Add-Some
unfolding changed
returns-in-Add-Some c =
    let f = c.args.self in
    let n : length f.entries ≡ 16 = search rules in
    simp (
      ne_eqb _ _ c.if-address-eq0.false,
      ← c.find.ensures,
      c.in-Add-Some.is-0,
      c.in-Add-Some.is-1,
    ) (rebuilt f n c.requires)

pub returns-in-Add-Some-2 : goal.returns-in-Add-Some-2
unfolding changed
returns-in-Add-Some-2 c =
    let f = c.args.self in
    let n : length f.entries ≡ 16 = search rules in
    simp (
      ne_eqb _ _ c.if-address-eq0.false,
      ← c.find.ensures,
      c.in-Add-Some.is-0,
      c.in-Add-Some.is-1,
    ) (rebuilt f n c.requires)
