use mathlib.Core.Path.{sym, ◌∙◌}
use Rattle.octets.proofs.Writing.{output-wrong}
use Rattle.hexadecimal.specs.Hex.{digit_line}
use Rattle.log_lines.proofs.writing.write_opening.Goals as goal

pub returns-then-is_one_of : goal.returns-then-is_one_of
unfolding digit_line
returns-then-is_one_of c =
    let right = sym c.is_one_of.ensures ∙ c.if-is_one_of.true in
    rw right (rw c.four_octets-octets.ensures at c.write_line.ensures)

pub returns : goal.returns
returns c = let a = c.args in output-wrong _ _ a.output.now (sym c.is_one_of.ensures ∙ c.if-is_one_of.false)
