-- A line of text: fields with a comma between them and a newline at the end. Characters are ASCII octets.
use Prim.Native.Char.{code}
use Rattle.std.specs.Prelude.{ℕ, zero, suc, ◌+◌, ◌/◌, ◌%◌, ◌≤◌, cond, List, [], ◌∷◌, ◌++◌, ◌≡◌, eqb, length, take}
use Prim.Native.String.{String, char_at, len}
use Rattle.octets.specs.Numbers.{octets16, octets32}
use Rattle.hexadecimal.specs.Hex.{text_of}
use Rattle.line_fields.specs.declared.Characters.{Characters}
use Rattle.line_fields.specs.declared.Word.{Word}
use Rattle.line_fields.specs.declared.Word.TheVariants as W
use Rattle.line_fields.specs.declared.Field.{Field}
use Rattle.line_fields.specs.declared.Field.TheVariants as F

-- ---- texts

-- n characters of a quoted text, from a place on
abbrev pub characters_from : ℕ → ℕ → String → List ℕ
characters_from zero at text = []
characters_from (suc n) at text = code (char_at text at) ∷ characters_from n (suc at) text

-- the characters of a quoted text
abbrev pub ascii : String → List ℕ
ascii text = characters_from (len text) 0 text

-- the decimal digits of n, at most so many of them; 0 has none
abbrev pub digits_up_to : ℕ → ℕ → List ℕ
digits_up_to zero n = []
digits_up_to (suc most) n = cond (eqb n 0) [] (digits_up_to most (n / 10) ++ ((48 + n % 10) ∷ []))

-- A NUMBER IN DECIMAL: its digits, of which it has no more than its own value; `0` for 0
unfoldable pub decimal_of : ℕ → List ℕ
decimal_of n = cond (eqb n 0) (48 ∷ []) (digits_up_to n n)

-- octets as `0x` and capitals, at full width
abbrev pub hexadecimal_of : List ℕ → List ℕ
hexadecimal_of octets = 48 ∷ 120 ∷ text_of octets

abbrev pub spelling : Word → String
spelling W.Record = "record"
spelling W.Repeated = "repeated"
spelling W.Conflict = "conflict"
spelling W.Message = "message"
spelling W.Refused = "refused"
spelling W.Missing = "missing"
spelling W.Unopened = "unopened"
spelling W.End = "end"
spelling W.Invite = "Invite"
spelling W.Capabilities = "Capabilities"
spelling W.Start = "Start"
spelling W.PublicKey = "Public Key"
spelling W.InputComplete = "Input Complete"
spelling W.Confirmation = "Confirmation"
spelling W.Random = "Random"
spelling W.Data = "Data"
spelling W.Complete = "Complete"
spelling W.Failed = "Failed"

unfoldable pub word_text : Word → List ℕ
word_text word = ascii (spelling word)

-- ---- fields and lines

unfoldable pub field_text : Field → List ℕ
field_text F.Empty = []
field_text (F.Word word) = word_text word
field_text (F.Decimal n) = decimal_of n
field_text (F.Octet n) = hexadecimal_of (n ∷ [])
field_text (F.Pair n) = hexadecimal_of (octets16 n)
field_text (F.Number n) = hexadecimal_of (octets32 n)

-- what stands behind a text: a comma before further ones, a newline behind the last
abbrev pub end_before : List (List ℕ) → ℕ
end_before [] = 10
end_before (t ∷ ts) = 44

-- A LINE of texts
unfoldable pub line_of : List (List ℕ) → List ℕ
line_of [] = []
line_of (t ∷ ts) = t ++ (end_before ts ∷ line_of ts)

-- ---- a field in a line

-- a text of at most 20 characters
abbrev pub text_in : Characters → List ℕ
text_in c = take c.length c.text

abbrev pub Holds : Characters → List ℕ → Type 0
Holds c text = (text_in c ≡ text) × (c.length ≤ 20)

-- room for any field and what stands behind it
abbrev pub FieldAsks : List ℕ → ℕ → Type 0
FieldAsks line at = at + 21 ≤ length line
