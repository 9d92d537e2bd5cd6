use lib.ListN.{drop}
use mathlib.Core.Path.{◌≡◌}
use Rattle.filter_entries.specs.Entries.{all_allowed}
use Rattle.filter_entries.proofs.all_allowed.Given as goal

abbrev pub invariant-loop-i : goal.invariant-loop-i
invariant-loop-i l = all_allowed (drop l.i l.held) ≡ all_allowed l.held
