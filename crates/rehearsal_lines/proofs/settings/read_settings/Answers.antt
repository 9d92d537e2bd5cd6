use mathlib.Core.Path.{◌≡◌, sym, ap, ◌∙◌}
use Rattle.rehearsal_lines.specs.Lines.{field, decimal_read, rates_of}
use Rattle.rehearsal_lines.proofs.Channel.{cut-front, cut-behind, cut-nothing, seed-wrong, rates-missing, seed-right}
use Rattle.rehearsal_lines.proofs.settings.read_settings.Goals as goal
use Rattle.rehearsal_lines.proofs.settings.read_settings.Goals.{After-read_decimal}

first : (c : After-read_decimal)
    → c.read_decimal.result ≡ decimal_read (field c.args.settings.now) 4294967295
first c = rw (cut-front _ _ c.field_length-end.ensures.0) at c.read_decimal.ensures

pub returns-in_default : goal.returns-in_default
returns-in_default c = seed-wrong _ (sym (first (goal.at.returns-in_default c).After-read_decimal) ∙ c.in_default.is)

pub returns-then-settings-end : goal.returns-then-settings-end
returns-then-settings-end c =
    rates-missing _
    (cut-nothing c.args.settings.now _ c.field_length-end.ensures.0 c.if-settings-end.true)

pub returns : goal.returns
returns c =
    c.read_rates.ensures
    ∙ ap (rates_of _) (cut-behind c.args.settings.now _ c.field_length-end.ensures.0)
    ∙ seed-right _ (sym (first (goal.at.returns c).After-read_decimal) ∙ c.in-Some.is)
