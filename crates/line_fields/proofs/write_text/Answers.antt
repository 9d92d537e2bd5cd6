-- `copy` answers whether the text fits, which is the definition's test.
use mathlib.Core.Bool.{true}
use mathlib.Core.Path.{◌≡◌, sym, ◌∙◌}
use Rattle.octets.specs.Writing.{is_written, written}
use Rattle.octets.proofs.Writing.{copy-fits, copy_writes}
use Rattle.line_fields.proofs.write_text.Goals as goal

pub returns-then-copy : goal.returns-then-copy
unfolding written
returns-then-copy c =
    let fits : is_written true c.args.text.now c.args.output.now ≡ c.copy.result = sym (copy-fits c.args.text.now c.args.output.now) ∙ sym c.copy.ensures.0 in
    (rw (fits, c.if-copy.true), c.copy.ensures.1 ∙ copy_writes _ _)

pub returns-else-copy : goal.returns-else-copy
unfolding written
returns-else-copy c =
    let fits : is_written true c.args.text.now c.args.output.now ≡ c.copy.result = sym (copy-fits c.args.text.now c.args.output.now) ∙ sym c.copy.ensures.0 in
    (rw (fits, c.if-copy.false), c.copy.ensures.1 ∙ copy_writes _ _)
