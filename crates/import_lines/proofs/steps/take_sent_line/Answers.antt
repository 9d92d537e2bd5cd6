use lib.ListN.{replicate}
use mathlib.Core.List.{[]}
use mathlib.Core.Path.{refl, ◌∙◌}
use Rattle.import_lines.proofs.Laws.{held_same}
use Rattle.import_lines.specs.Lines.{sent_line}
use Rattle.import_lines.proofs.steps.take_sent_line.Goals as goal

pub returns-in-None : goal.returns-in-None
unfolding sent_line
returns-in-None c = rw (c.in-None.ensures) c.refuse_line.ensures

pub returns-in-Some : goal.returns-in-Some
unfolding sent_line
returns-in-Some c =
    let k = c.in-Some.ensures in
    let w = rw k.2 at c.take_sent.ensures in
    rw k.0 (w ∙ (held_same c.args.digits.now (replicate 30 0) refl k.0 c.args.tray [] c.args.number).2)
