use Rattle.log_lines.specs.Lines.{opening_of}
use Rattle.log_lines.proofs.openings.read_opening.Goals as goal

pub returns-else-begins_opening : goal.returns-else-begins_opening
unfolding opening_of
returns-else-begins_opening c = rw (← c.begins_opening.ensures, c.if-begins_opening.false)
