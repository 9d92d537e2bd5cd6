use mathlib.Core.Bool.{false≢true}
use mathlib.Core.Path.{refl, sym, ◌∙◌}
use Rattle.import_capabilities.proofs.put_end.Goals as goal

pub returns-then-progress : goal.returns-then-progress
returns-then-progress g c = record { whole = λ _. c.put_last.ensures; short = λ n. absurd (false≢true (sym n ∙ c.if-progress.true)) }

pub returns : goal.returns
returns g c = record { whole = λ y. absurd (false≢true (sym c.if-progress.false ∙ y)); short = λ _. (refl, refl) }
