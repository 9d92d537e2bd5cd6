-- By the lookup: an address is on a list exactly if it is found.
use borrow.Author.Tests.{ne_eqb}
use lib.ListN.{drop}
use mathlib.Core.Path.{sym, ap, ◌∙◌}
use Rattle.std.specs.Prelude.{is_some}
use Rattle.filter_entries.proofs.Lookup.{off-by-none}
use Rattle.filter_entries.proofs.is_allowed.Goals as goal

pub returns-then-address-ne0 : goal.returns-then-address-ne0
returns-then-address-ne0 c =
    let a = c.args in
    rw (ne_eqb _ _ c.if-address-ne0.true) (off-by-none (drop a.from a.held.now) a.address a.from c.is_none.result (sym (ap is_some c.find_from.ensures) ∙ c.is_none.ensures))
