use native.Mathlib.Omega.{arith}
use lib.ListN.{length}
use lib.Seq.{length-take-le}
use mathlib.Core.Path.{◌≡◌, sym}
use Rattle.import_capabilities.proofs.Laws.{held-within}
use borrow.Author.Rules.{rules}
use Rattle.import_capabilities.proofs.take_held.Goals as goal

pub slice_bounds-take_line-end : goal.slice_bounds-take_line-end
slice_bounds-take_line-end c =
    let a = c.args in
    let long : length a.line.characters ≡ 64 = search rules in
    sym (length-take-le c.min-count.result a.line.characters (omega (arith, c.min-count.ensures)))

pub returns : goal.returns
returns c =
    let a = c.args in
    let long : length a.line.characters ≡ 64 = search rules in
    rw (c.min-count.ensures, held-within a.line.characters a.line.count long) at c.take_line.ensures
