-- What the derived comparison says is that the eight fields are the same.
use mathlib.Core.Path.{sym, ◌∙◌}
use Rattle.import_messages.specs.Messages.{same_fields}
use Rattle.import_messages.proofs.further_word.Goals as goal

pub returns-then-eq : goal.returns-then-eq
unfolding same_fields
returns-then-eq c = rw (sym c.eq.ensures ∙ c.if-eq.true)

pub returns-else-eq : goal.returns-else-eq
unfolding same_fields
returns-else-eq c = rw (sym c.eq.ensures ∙ c.if-eq.false)
