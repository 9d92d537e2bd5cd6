use Rattle.script.specs.Script.{outcome_line}
use Rattle.script.proofs.write_outcome.Goals as goal

pub returns-in-Values : goal.returns-in-Values
unfolding outcome_line
returns-in-Values c = let w = c.write_values in rw c.in-Values.is (w.ensures.0, w.ensures.1)

pub returns-in-Done : goal.returns-in-Done
unfolding outcome_line
returns-in-Done c = let w = c.write_line in rw c.in-Done.is (w.ensures.0, w.ensures.1)

pub returns-in-Refused : goal.returns-in-Refused
unfolding outcome_line
returns-in-Refused c = let w = c.write_refusal in rw c.in-Refused.is (w.ensures.0, w.ensures.1)

pub returns-in-Malformed : goal.returns-in-Malformed
unfolding outcome_line
returns-in-Malformed c = let w = c.write_line-in-Malformed in rw c.in-Malformed.is (w.ensures.0, w.ensures.1)
