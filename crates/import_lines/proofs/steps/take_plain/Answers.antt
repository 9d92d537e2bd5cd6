use mathlib.Core.Path.{sym, ◌∙◌}
use borrow.Author.Tests.{eq-eqb, ne_eqb}
use Rattle.import_lines.specs.Lines.{plain_step}
use Rattle.import_lines.proofs.steps.take_plain.Goals as goal
use Rattle.import_lines.proofs.steps.take_plain.Goals.{then-is_empty-via-then-is_empty, then-is_empty-via-else-is_empty+then-octet_at-eq35}

pub returns-then-is_empty : goal.returns-then-is_empty
unfolding plain_step
returns-then-is_empty c =
    elim c.then-is_empty.branch [
      | then-is_empty-via-then-is_empty w ↦ rw (sym c.is_empty.ensures ∙ w.if-is_empty.true)
      | then-is_empty-via-else-is_empty+then-octet_at-eq35 w ↦ rw (sym c.is_empty.ensures ∙ w.if-is_empty.false, ← w.octet_at.ensures, eq-eqb _ _ w.if-octet_at-eq35.true)
    ]

pub returns : goal.returns
unfolding plain_step
returns c = rw (sym c.is_empty.ensures ∙ c.if-is_empty.false, ← c.octet_at.ensures, ne_eqb _ _ c.if-octet_at-eq35.false) c.refuse_line.ensures
