use mathlib.Core.Path.{sym, ◌∙◌}
use Rattle.import_lines.proofs.Laws.{opened-line, unopened-line}
use Rattle.import_lines.proofs.steps.take_other.Goals as goal

pub returns-in-Some : goal.returns-in-Some
returns-in-Some c =
    let e = sym c.read_opening.ensures ∙ c.in-Some.is in
    rw (opened-line c.args.line.now e c.args.tray c.args.number) c.open_socket.ensures

pub returns-in-None : goal.returns-in-None
returns-in-None c =
    let e = sym c.read_opening.ensures ∙ c.in-None.is in
    rw (unopened-line c.args.line.now e c.args.tray c.args.number) c.take_plain.ensures
