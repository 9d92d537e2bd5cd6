use mathlib.Core.Path.{sym, ◌∙◌}
use native.Mathlib.Omega.{arith}
use Rattle.pb_adv.proofs.Laws.{start_fits_lem}
use Rattle.pb_adv.proofs.parsing.parse_start.Goals as goal

pub segment_from-requires : goal.segment_from-requires
segment_from-requires c = omega (arith, (start_fits_lem c.args.frame.now (sym c.is_start.ensures ∙ c.if-not-is_start.false)).long)
