use Rattle.held_line.proofs.is_digit.Goals as goal

pub returns : goal.returns
returns c = rw c.value.ensures
