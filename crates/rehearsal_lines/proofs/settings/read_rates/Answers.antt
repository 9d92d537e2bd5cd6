use native.Mathlib.Omega.{arith}
use mathlib.Core.Path.{◌≡◌, sym, ◌∙◌}
use Rattle.rehearsal_lines.specs.Lines.{field, behind, decimal_read}
use Rattle.std.specs.Prelude.{Some}
use Rattle.rehearsal_lines.proofs.Channel.{cut-front, cut-behind, cut-nothing, lost-wrong, repeated-wrong, repeated-missing, rates-right}
use Rattle.rehearsal_lines.proofs.Numbers.{told-number}
use Rattle.rehearsal_lines.proofs.settings.read_rates.Goals as goal
use Rattle.rehearsal_lines.proofs.settings.read_rates.Goals.{In-Some, In-Some-read_decimal}

lost : (c : In-Some)
    → decimal_read (field c.args.rates.now) 100 ≡ Some c.in-Some.lost
lost c = sym (rw (cut-front _ _ c.field_length-end.ensures.0) at c.read_decimal.ensures) ∙ c.in-Some.is

repeated : (c : In-Some-read_decimal)
    → decimal_read (behind c.args.rates.now) 100 ≡ Some c.in-Some-read_decimal.repeated
repeated c = sym (rw (cut-behind _ _ c.field_length-end.ensures.0) at c.read_decimal-2.ensures) ∙ c.in-Some-read_decimal.is

pub returns-in_default : goal.returns-in_default
returns-in_default c = lost-wrong _ _ (sym (rw (cut-front _ _ c.field_length-end.ensures.0) at c.read_decimal.ensures) ∙ c.in_default.is)

pub returns-then-rates-end : goal.returns-then-rates-end
returns-then-rates-end c =
    repeated-missing _ _
    (cut-nothing c.args.rates.now _ c.field_length-end.ensures.0 c.if-rates-end.true)

pub returns-in_default-read_decimal : goal.returns-in_default-read_decimal
returns-in_default-read_decimal c = repeated-wrong _ _ (sym (rw (cut-behind _ _ c.field_length-end.ensures.0) at c.read_decimal-2.ensures) ∙ c.in_default-read_decimal.is)

pub overflow_cast-result : goal.overflow_cast-result
overflow_cast-result c = omega (arith, told-number _ _ (lost (goal.at.overflow_cast-result c).In-Some))

pub overflow_cast-result-2 : goal.overflow_cast-result-2
overflow_cast-result-2 c = omega (arith, told-number _ _ (repeated (goal.at.overflow_cast-result-2 c).In-Some-read_decimal))

pub returns : goal.returns
returns c = rates-right _ _ (lost (goal.at.returns c).In-Some) (repeated (goal.at.returns c).In-Some-read_decimal)
