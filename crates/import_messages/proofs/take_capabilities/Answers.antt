use Prim.Native.Nat.{ℕ}
use mathlib.Core.Path.{◌≡◌, refl, sym, ◌∙◌}
use Rattle.provisioning.specs.declared.Capabilities.{Capabilities}
use Rattle.line_fields.specs.declared.Word.TheVariants as W
use Rattle.stock_table.specs.Rows.{record_row}
use Rattle.stock_table.specs.declared.Origin.{Origin}
use Rattle.import_tray.specs.Trays.{with_stock, row_after}
use Rattle.import_tray.specs.declared.Stock.{Stock}
use Rattle.import_tray.specs.declared.Stock.TheVariants as S
use Rattle.import_tray.specs.declared.Tray.{Tray}
use Rattle.import_messages.specs.Messages.{capabilities_by}
use Rattle.import_messages.proofs.take_capabilities.Goals as goal

first : (s : Stock) → ((d : Capabilities) → s ≡ S.Recorded d → ⊥) → (tray : Tray) (place line : ℕ) (origin : Origin) (c : Capabilities)
    → capabilities_by s tray place line origin c ≡ row_after (with_stock tray place (S.Recorded c)) (record_row W.Record line origin c)
first S.Unopened h tray place line origin c = refl
first S.Missing h tray place line origin c = refl
first (S.Recorded d) h tray place line origin c = absurd (h d refl)

pub returns-in-Recorded : goal.returns-in-Recorded
returns-in-Recorded c =
    let e = sym c.stock_at.ensures ∙ c.in-Recorded.is in
    rw (e, c.record_row.ensures, c.further_word-what.ensures)

pub returns : goal.returns
returns c =
    let a = c.args in
    rw (c.record_row-2.ensures, c.with_stock.ensures, ← c.stock_at.ensures) (sym (first c.stock_at.result c.in_default.not-Recorded a.tray a.place a.line a.origin a.capabilities))
