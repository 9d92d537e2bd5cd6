use native.Mathlib.Omega.{arith}
use mathlib.Core.Path.{sym, ◌∙◌}
use Rattle.log_lines.proofs.Laws.{begun-so, all_eight, opening-digits, opening-wrong}
use Rattle.log_lines.proofs.openings.read_begun.Goals as goal

pub slice_bounds-decode-end : goal.slice_bounds-decode-end
slice_bounds-decode-end c = omega (arith, begun-so c.args.line.now c.requires)

pub returns-in_default : goal.returns-in_default
returns-in_default c =
    let same = rw (all_eight c.args.line.now c.requires) at c.decode.ensures.0 in
    sym (opening-wrong c.args.line.now c.requires
    (λ n e. c.in_default.not-Ok n (same ∙ e)))

pub overflow_sub-result : goal.overflow_sub-result
overflow_sub-result c = omega (arith, begun-so c.args.line.now c.requires)

pub returns : goal.returns
returns c =
    let k = c.decode in
    let digits = all_eight c.args.line.now c.requires in
    let told = rw digits at (sym k.ensures.0 ∙ c.in-Ok.is) in
    let out = rw digits at k.ensures.1 in
    rw (opening-digits c.args.line.now c.requires told, ← out, ← c.read32.ensures)
