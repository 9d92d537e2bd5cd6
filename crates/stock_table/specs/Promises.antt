-- What is promised of the stock table, in the terms of who reads it: the header and a row cut at their commas. The proofs are `proofs/Promises.antt`.
-- Quotations are of `docs/IMPORT.md`.
use Rattle.std.specs.Prelude.{ℕ, zero, suc, ◌<◌, Bool, true, false, cond, List, [], ◌∷◌, ◌++◌, map, ◌≡◌, eqb, length, drop, get_or, replicate, Result, Ok}
use Prim.Native.String.{String}
use Rattle.octets.specs.Numbers.{Octets}
use Rattle.octets.specs.Parts.{same}
use Rattle.octets.specs.Told.{Told, refused, answered}
use Rattle.transactions.specs.declared.Socket.{Socket}
use Rattle.provisioning.specs.Message.{message_read, told}
use Rattle.provisioning.specs.declared.Capabilities.{Capabilities}
use Rattle.provisioning.specs.declared.Message.{Message}
use Rattle.provisioning.specs.declared.Message.TheVariants as M
use Rattle.provisioning.specs.declared.MessageRefusal.{MessageRefusal}
use Rattle.line_fields.specs.Lines.{ascii, decimal_of, hexadecimal_of, field_text, word_text}
use Rattle.line_fields.specs.declared.Word.{Word}
use Rattle.line_fields.specs.declared.Word.TheVariants as W
use Rattle.line_fields.specs.declared.Field.TheVariants as F
use Rattle.stock_table.specs.declared.Origin.{Origin}
use Rattle.stock_table.specs.declared.Row.{Row}
use Rattle.stock_table.specs.Rows.{origin_of, unknown, record_row, message_row, refused_row, socket_row, end_row}
use Rattle.stock_table.specs.Columns.{columns, header_line, row_line}

-- ---- the header and every row are one line each

-- the first newline is the last character
abbrev pub is_one_line : List ℕ → Bool
is_one_line [] = false
is_one_line (c ∷ text) = let rest = is_one_line text in cond (eqb c 10) (eqb (length text) 0) rest

abbrev pub RowsAreLines : Type 0
RowsAreLines = (is_one_line header_line ≡ true) × ((row : Row) → is_one_line (row_line row) ≡ true)

-- ---- a line cut at its commas

-- the texts of a line, of which some characters came before: a comma ends one, and the newline the last
abbrev pub cut_from : List ℕ → List ℕ → List (List ℕ)
cut_from held [] = held ∷ []
cut_from held (c ∷ line) =
    let ended = held ∷ cut_from [] line in
    let longer = cut_from (held ++ (c ∷ [])) line in
    cond (eqb c 10) (held ∷ []) (cond (eqb c 44) ended longer)

abbrev pub cut_at_commas : List ℕ → List (List ℕ)
cut_at_commas line = cut_from [] line

-- the place of a text among others
abbrev pub place_of : List ℕ → List (List ℕ) → ℕ
place_of text [] = zero
place_of text (t ∷ ts) = cond (same t text) zero (suc (place_of text ts))

-- THE TEXT UNDER A NAME: what a line has at the place where the header has that name
abbrev pub under : String → List ℕ → List ℕ
under name line = get_or (cut_at_commas line) (place_of (ascii name) (cut_at_commas header_line)) []

-- "Every row has the same fifteen columns"
abbrev pub SameColumns : Type 0
SameColumns = (length (cut_at_commas header_line) ≡ 15) × ((row : Row) → length (cut_at_commas (row_line row)) ≡ 15)

-- under every column's name stands the text of that column's field
abbrev pub UnderColumn : Type 0
UnderColumn = (row : Row) → map (λ c. under c.name (row_line row)) columns ≡ map (λ c. field_text (c.field row)) columns

-- ---- the rows of a Capabilities message m that the reader accepts: each column's text, from m's own octets

pub record RecordColumns (what : Word) (line : ℕ) (origin : Origin) (m row : List ℕ) : Type 0 where
  pub what_is : under "what" row ≡ word_text what
  pub line_is : under "line" row ≡ decimal_of line
  pub socket_is : under "socket" row ≡ field_text origin.socket
  pub id_is : under "link_id" row ≡ field_text origin.id
  pub number_is : under "number" row ≡ field_text origin.number
  pub refusal_is : under "refusal" row ≡ []
  pub message_is : under "message" row ≡ ascii "Capabilities"
  pub elements : under "elements" row ≡ decimal_of (get_or m 1 0)
  pub algorithms : under "algorithms" row ≡ hexadecimal_of (get_or m 2 0 ∷ get_or m 3 0 ∷ [])
  pub public_key_type : under "public_key_type" row ≡ decimal_of (get_or m 4 0)
  pub static_oob_type : under "static_oob_type" row ≡ decimal_of (get_or m 5 0)
  pub output_oob_size : under "output_oob_size" row ≡ decimal_of (get_or m 6 0)
  pub output_oob_action : under "output_oob_action" row ≡ hexadecimal_of (get_or m 7 0 ∷ get_or m 8 0 ∷ [])
  pub input_oob_size : under "input_oob_size" row ≡ decimal_of (get_or m 9 0)
  pub input_oob_action : under "input_oob_action" row ≡ hexadecimal_of (get_or m 10 0 ∷ get_or m 11 0 ∷ [])

abbrev pub RecordsInPlace : Type 0
RecordsInPlace =
    (what : Word) (line : ℕ) (origin : Origin) (m : List ℕ) → Octets m → (c : Capabilities) → message_read m ≡ Ok (M.Capabilities c)
    → RecordColumns what line origin m (row_line (record_row what line origin c))

-- ---- the other rows: texts in the columns before the eight fields, and those empty

pub record NoteColumns (what : Word) (line : List ℕ) (origin : Origin) (refusal message row : List ℕ) : Type 0 where
  pub what_is : under "what" row ≡ word_text what
  pub line_is : under "line" row ≡ line
  pub socket_is : under "socket" row ≡ field_text origin.socket
  pub id_is : under "link_id" row ≡ field_text origin.id
  pub number_is : under "number" row ≡ field_text origin.number
  pub refusal_is : under "refusal" row ≡ refusal
  pub message_is : under "message" row ≡ message
  pub no_fields : drop 7 (cut_at_commas row) ≡ replicate 8 []

-- "the name as document 01 writes it"
abbrev pub name_of : Told → String
name_of (refused n) = ""
name_of (answered name values) = name

pub record NotesInPlace : Type 0 where
  pub refusals : (line : ℕ) (origin : Origin) (n : ℕ) → NoteColumns W.Refused (decimal_of line) origin (decimal_of n) [] (row_line (refused_row line origin n))
  pub messages : (line : ℕ) (origin : Origin) (m : Result Message MessageRefusal)
      → NoteColumns W.Message (decimal_of line) origin [] (ascii (name_of (told m))) (row_line (message_row line origin m))
  pub sockets : (what : Word) (s : Socket) → NoteColumns what [] (origin_of (F.Decimal s.0) F.Empty F.Empty) [] [] (row_line (socket_row what s))
  pub end : (lines : ℕ) → NoteColumns W.End (decimal_of lines) unknown [] [] (row_line (end_row lines))

-- ---- a row of a Capabilities message loses nothing of it

-- what such a row is made from: a message that the reader accepts, where it came from, and what is said of it
pub record Source : Type 0 where
  pub what : Word
  pub line : ℕ
  pub socket : ℕ
  pub id : ℕ
  pub number : ℕ
  pub octets : List ℕ
  pub capabilities : Capabilities
  pub id_range : id < 4294967296
  pub number_range : number < 256
  pub are_octets : Octets octets
  pub accepted : message_read octets ≡ Ok (M.Capabilities capabilities)

abbrev pub row_for : Source → Row
row_for x = record_row x.what x.line (origin_of (F.Decimal x.socket) (F.Number x.id) (F.Octet x.number)) x.capabilities

-- two equal rows say the same of the same octets from the same place
abbrev pub RowsLoseNothing : Type 0
RowsLoseNothing =
    (x y : Source) → row_line (row_for x) ≡ row_line (row_for y)
    → (x.octets ≡ y.octets)
    × (x.what ≡ y.what)
    × (x.line ≡ y.line)
    × (x.socket ≡ y.socket)
    × (x.id ≡ y.id)
    × (x.number ≡ y.number)
