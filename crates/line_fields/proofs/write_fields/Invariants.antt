-- The loop's invariant: with the texts that are left behind what is written, the line is whole (`Begun`); `begun-next` is its step.
use Prim.Native.Nat.{◌*◌, ◌≤◌}
use mathlib.Core.List.{map}
use lib.ListN.{length}
use mathlib.Core.Path.{◌≡◌}
use Rattle.line_fields.proofs.Laws.{Begun}
use Rattle.line_fields.specs.Lines.{field_text}
use Rattle.line_fields.proofs.write_fields.Given as goal

abbrev pub invariant-loop-i : goal.invariant-loop-i
invariant-loop-i l =
    (length l.line ≡ 315) × (l.at ≤ 21 * l.i) × Begun (map field_text l.field-items) l.initial.line l.line l.at l.i
