-- What the buyer reads (`specs/Shown.antt`).
use Prim.Native.Nat.{ℕ, ◌+◌, ◌≤◌}
use native.Mathlib.Omega.{arith}
use mathlib.Core.List.{List}
use mathlib.Core.Path.{sym, ap, ◌∙◌, subst}
use lib.Dec.{ltb}
use lib.ListN.{length, get_or-eq_default}
use borrow.Author.Tests.{ltb-true, ltb-false}
use Rattle.octets.specs.Numbers.{Octets}
use Rattle.octets.proofs.Tests.{cases}
use Rattle.line_fields.specs.Lines.{decimal_of}
use Rattle.stock_table.specs.Columns.{row_line}
use Rattle.stock_table.specs.Promises.{RecordColumns}
use Rattle.stock_table.specs.declared.Row.{Row}
use Rattle.stock_table.proofs.Promises.{records-in-place}
use Rattle.import_log.specs.Logs.{after_all, at_first, number_in}
use Rattle.import_log.specs.Records.{fields_of, message_origin, IsTrue}
use Rattle.import_log.specs.Shown.{EveryColumn}
use Rattle.import_log.proofs.Operations.{frame-octets}
use Rattle.import_log.proofs.Records.{every-record}

-- the message's octets are octets: those of the line
message-octets : (before : List (List ℕ)) (line : List ℕ) (row : Row) (t : IsTrue before line row) → Octets t.octets
message-octets before line row t i =
    cases (ltb i 12)
    (λ e. rw (t.places i (ltb-true i 12 e)) (frame-octets line t.is_hexadecimal (9 + i)))
    (λ e. let none : length t.octets ≤ i = omega (arith, ltb-false i 12 e, t.long) in rw (get_or-eq_default t.octets 0 none) (omega arith))

pub every-column : EveryColumn
every-column before line row e w =
    let t = every-record before line row e w in
    let shown = records-in-place row.what (number_in (after_all at_first before)) (message_origin t.socket t.id t.number) t.octets (message-octets before line row t) (fields_of t.octets) t.accepted in
    let columns = subst (λ (r : Row). RecordColumns row.what (number_in (after_all at_first before)) (message_origin t.socket t.id t.number) t.octets (row_line r)) (sym t.shown) shown in
    record {
      is_true = t;
      columns = columns;
      static_oob_type = columns.static_oob_type ∙ ap decimal_of (t.places 5 (omega arith));
    }
