-- The columns of the stock table: one list of names and fields, from which the header and every row are made. Quotations are of `docs/IMPORT.md`.
use Rattle.std.specs.Prelude.{ℕ, Option, Some, None, List, [], ◌∷◌, map}
use Prim.Native.String.{String}
use Rattle.line_fields.specs.Lines.{ascii, field_text, line_of}
use Rattle.line_fields.specs.declared.Field.{Field}
use Rattle.line_fields.specs.declared.Field.TheVariants as F
use Rattle.provisioning.specs.declared.Capabilities.{Capabilities}
use Rattle.stock_table.specs.declared.Row.{Row}

-- a name, and the field that a row has under it
pub record Column (A : Type 0) : Type 0 where
  pub name : String
  pub field : A → Field

abbrev pub column : {A : Type 0} → String → (A → Field) → Column A
column name field = record { name = name; field = field }

-- "Decimal: [..] elements, the two types, the two sizes. `0x` and capitals at full width: [..] algorithms 4, the two actions 4."
abbrev pub capabilities_columns : List (Column Capabilities)
capabilities_columns =
    column "elements" (λ c. F.Decimal c.elements)
    ∷ column "algorithms" (λ c. F.Pair c.algorithms)
    ∷ column "public_key_type" (λ c. F.Decimal c.public_key_type)
    ∷ column "static_oob_type" (λ c. F.Decimal c.static_oob_type)
    ∷ column "output_oob_size" (λ c. F.Decimal c.output_oob_size)
    ∷ column "output_oob_action" (λ c. F.Pair c.output_oob_action)
    ∷ column "input_oob_size" (λ c. F.Decimal c.input_oob_size)
    ∷ column "input_oob_action" (λ c. F.Pair c.input_oob_action)
    ∷ []

-- "empty where a row has no value for one"
abbrev pub stated_field : (Capabilities → Field) → Option Capabilities → Field
stated_field field None = F.Empty
stated_field field (Some c) = field c

-- the same column of a row
abbrev pub of_row : Column Capabilities → Column Row
of_row c = column c.name (λ r. stated_field c.field r.stated)

-- THE COLUMNS, the eight of a Capabilities message behind the others
abbrev pub columns : List (Column Row)
columns =
    column "what" (λ r. F.Word r.what)
    ∷ column "line" (λ r. r.line)
    ∷ column "socket" (λ r. r.origin.socket)
    ∷ column "link_id" (λ r. r.origin.id)
    ∷ column "number" (λ r. r.origin.number)
    ∷ column "refusal" (λ r. r.refusal)
    ∷ column "message" (λ r. r.message)
    ∷ map of_row capabilities_columns

-- ---- the header and a row, column by column

abbrev pub stated_fields : Option Capabilities → List Field
stated_fields stated = map (λ c. stated_field c.field stated) capabilities_columns

abbrev pub row_fields : Row → List Field
row_fields row = map (λ c. c.field row) columns

unfoldable pub header_line : List ℕ
header_line = line_of (map (λ c. ascii c.name) columns)

unfoldable pub row_line : Row → List ℕ
row_line row = line_of (map field_text (row_fields row))
