use Rattle.std.specs.Prelude.{length}
use Rattle.link_state.proofs.+all_apart.Given as goal

abbrev pub decreases-all_apart : goal.decreases-all_apart
decreases-all_apart l = length l.links.now
