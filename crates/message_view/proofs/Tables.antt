-- The table of `specs/Tables.antt`.
use Prim.Native.Nat.{ℕ, ◌+◌}
use mathlib.Core.Bool.{true, not}
use mathlib.Core.List.{List}
use mathlib.Core.Option.{some}
use mathlib.Core.Path.{◌≡◌, refl}
use lib.Dec.{leb}
use lib.ListN.{length}
use Rattle.octets.specs.Tables.{first_of}
use Rattle.octets.proofs.Tables.{distinct, by-table}
use Rattle.octets.proofs.Tests.{cases, lt_not_le}
use Rattle.message_view.specs.Reading.{size_of, value_at, field_at, field_told, told}
use Rattle.message_view.specs.Tables.{length_of, is_past_end, field_row, field_rows, FieldTable, PlaceAfter}
use Rattle.message_view.specs.declared.Wanted.{Wanted}
use Rattle.message_view.specs.declared.Wanted.TheVariants as W

-- ---- the table's own words, and the definitions

length-size : (w : Wanted) → length_of w ≡ size_of w
length-size W.Octet = refl
length-size W.Pair = refl
length-size (W.Long n) = refl

module _ (m : List ℕ) (place : ℕ) where
  past-not-within : (w : Wanted) → is_past_end m place w ≡ not (leb (place + size_of w) (length m))
  past-not-within w = rw (length-size w) (lt_not_le (length m) (place + size_of w))

  row-value : (w : Wanted) → field_row m place w ≡ record { answer = field_told (value_at m place w); holds = true }
  row-value W.Octet = refl
  row-value W.Pair = refl
  row-value (W.Long n) = refl

  rows-differ : (w : Wanted) → distinct (field_rows m place w) ≡ true
  rows-differ W.Octet = refl
  rows-differ W.Pair = refl
  rows-differ (W.Long n) = refl

  first-row : (w : Wanted) → first_of (field_rows m place w) ≡ some (told (field_at m place w).field)
  unfolding field_at
  first-row w = rw (past-not-within w, row-value w) (cases (leb (place + size_of w) (length m)) (λ e. rw e) (λ e. rw e))

-- ---- the table, and the place

pub field-table : FieldTable
field-table m place w = by-table (told (field_at m place w).field) (field_rows m place w) (rows-differ m place w) (first-row m place w)

pub place_after : PlaceAfter
unfolding field_at
place_after m place w = rw (past-not-within m place w, length-size w) (cases (leb (place + size_of w) (length m)) (λ e. rw e) (λ e. rw e))
