use native.Mathlib.Omega.{arith}
use mathlib.Core.Path.{sym, ◌∙◌}
use Rattle.proxy.specs.Pieces.{CutAsked}
use Rattle.proxy.proofs.Laws.{cut-asked}
use Rattle.proxy_writing.proofs.Laws.{last-small}
use Rattle.proxy_writing.proofs.count_pieces.Goals as goal

pub overflow_add-result : goal.overflow_add-result
overflow_add-result c =
    let a = c.args in
    let asked : CutAsked a.size a.length = cut-asked a.size a.length (sym c.is_cut.ensures ∙ c.if-not-is_cut.false) in
    omega (arith, last-small a.size a.length asked, asked.few-octets)
