use lib.ListN.{replicate}
use mathlib.Core.Path.{refl, ◌∙◌}
use Rattle.import_lines.proofs.Laws.{held_same}
use Rattle.import_lines.specs.Lines.{line_step, line_area}
use Rattle.import_lines.proofs.steps.import_line.Goals as goal

pub returns-in-None : goal.returns-in-None
unfolding line_step line_area
returns-in-None c = rw (c.in-None.ensures) (c.take_unheard.ensures, refl)

pub returns-in-Some : goal.returns-in-Some
unfolding line_step line_area
returns-in-Some c =
    let a = c.args in
    let k = c.in-Some.ensures in
    let w = rw k.2 at c.take_heard.ensures in
    let same = held_same a.line.now (replicate 30 0) refl k.0 a.tray a.area.now a.number in
    rw k.0 (w.0 ∙ same.0, w.1 ∙ same.1)
