use mathlib.Core.Path.{sym, ◌∙◌}
use Rattle.import_lines.proofs.Laws.{marked-front}
use Rattle.import_lines.specs.Lines.{unheard_step}
use Rattle.import_lines.proofs.steps.take_unheard.Goals as goal

pub returns-in-Some : goal.returns-in-Some
unfolding unheard_step
returns-in-Some c =
    let found = c.in-Some.ensures.cases in
    let w = rw found.1 at c.take_sent_line.ensures in
    rw (sym (marked-front c.args.line.now) ∙ found.0) w

pub returns-in-None : goal.returns-in-None
unfolding unheard_step
returns-in-None c = rw (sym (marked-front c.args.line.now) ∙ c.in-None.ensures.cases) c.take_other.ensures
