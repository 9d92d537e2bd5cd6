use Rattle.std.proofs.Common.{sym, ◌∙◌, arith}
use Rattle.lines.proofs.Laws.{newline-at, newline-none}
use Rattle.lines.proofs.find_newline.Goals as goal

pub returns-in-Some : goal.returns-in-Some
returns-in-Some c =
    let a = c.args in
    let p = newline-at a.input.now a.from a.filled (omega arith) (omega arith) c.in-Some.count (sym c.before_newline.ensures ∙ c.in-Some.is) in
    (sym p.0, omega arith, p.1)

pub returns-in-None : goal.returns-in-None
returns-in-None c =
    let a = c.args in
    (sym (newline-none a.input.now a.from a.filled (omega arith) (omega arith) (sym c.before_newline.ensures ∙ c.in-None.is)), omega arith, omega arith)
