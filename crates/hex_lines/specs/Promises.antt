-- What is promised of one line of the line program beyond its contract. The proofs are `proofs/Promises.antt`.
use Rattle.std.specs.Prelude.{ℕ, ◌%◌, ◌≤◌, Bool, true, false, ◌||◌, not, List, [], ◌∷◌, map, ◌≡◌, eqb, ltb, length, take}
use Rattle.octets.specs.Cut.{joined}
use Rattle.octets.specs.Told.{refused}
use Rattle.octets.specs.Tables.{Row, refusal, reply, ByTable}
use Rattle.hexadecimal.specs.Hex.{all_digits, octets_of}
use Rattle.transactions.specs.Numbers.{number_after}
use Rattle.pb_adv_writing.specs.Writing.{message_frames}
use Rattle.transactions.specs.declared.TransactionNumber.{TransactionNumber}
use Rattle.hex_lines.specs.Lines.{frame_line, refused_text, line_text, line_next, told, line_written, line_output}

-- 11 where the output is shorter than the line's text; else the text's length and the next number
abbrev pub line_rows : TransactionNumber → List ℕ → List ℕ → List Row
line_rows t line output =
    refusal 11 (ltb (length output) (length (line_text t line)))
    ∷ reply "text" (length (line_text t line) ∷ (line_next t line).0 ∷ []) true
    ∷ []

abbrev pub LineTable : Type 0
LineTable = (t : TransactionNumber) (line output : List ℕ) → ByTable (told (line_written t line output)) (line_rows t line output)

-- a refusal leaves the output as it was
abbrev pub RefusalKeeps : Type 0
RefusalKeeps = (t : TransactionNumber) (line output : List ℕ) (n : ℕ) → told (line_written t line output) ≡ refused n → line_output t line output ≡ output

-- "isn't an even number of digits from 2 to 2,938"
abbrev pub is_none : List ℕ → Bool
is_none line = not (eqb (length line % 2) 0) || (not (all_digits line) || (ltb (length line) 2 || ltb 2938 (length line)))

-- a line that is none "writes `!11` and spends no number"; any other "writes its cut, one frame a line in capitals, Link ID 00000001"
pub record LineWrites (t : TransactionNumber) (line : List ℕ) : Type 0 where
  pub none : is_none line ≡ true → (line_text t line ≡ refused_text) × (line_next t line ≡ t)
  pub message : is_none line ≡ false → (line_text t line ≡ joined (map frame_line (message_frames 1 t (octets_of line)))) × (line_next t line ≡ number_after t)

abbrev pub AllLinesWrite : Type 0
AllLinesWrite = (t : TransactionNumber) (line : List ℕ) → LineWrites t line

-- the const MOST of src/lib.rt is enough for every line
abbrev pub Enough : Type 0
Enough = (t : TransactionNumber) (line : List ℕ) → length (line_text t line) ≤ 3776

-- the first 2,939 characters of a line, which is all that the program holds, do what the line does
abbrev pub FrontDoesTheSame : Type 0
FrontDoesTheSame =
    (t : TransactionNumber) (line : List ℕ) → (line_text t (take 2939 line) ≡ line_text t line) × (line_next t (take 2939 line) ≡ line_next t line)
