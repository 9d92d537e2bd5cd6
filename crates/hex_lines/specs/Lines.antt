-- One line of "Lines in, lines out": a message in hexadecimal in, its cut out, one frame a line.
use Rattle.std.specs.Prelude.{ℕ, Bool, true, ◌&&◌, cond, List, [], ◌∷◌, ◌++◌, map, leb, length, Result, Ok, Err}
use Rattle.octets.specs.Cut.{joined}
use Rattle.octets.specs.Told.{Told, refused, answered}
use Rattle.octets.specs.Writing.{written, output_after}
use Rattle.hexadecimal.specs.Hex.{is_hexadecimal, octets_of, text_of}
use Rattle.transactions.specs.Numbers.{number_after}
use Rattle.pb_adv_writing.specs.Writing.{message_frames}
use Rattle.transactions.specs.declared.TransactionNumber.{TransactionNumber}
use Rattle.hex_lines.specs.declared.LineText.{LineText}
use Rattle.hex_lines.specs.declared.OutputTooShort.{OutputTooShort}
use Rattle.octets.specs.declared.WrongArgument.{WrongArgument}

-- "an even number of digits from 2 to 2,938", of either case
abbrev pub is_message : List ℕ → Bool
is_message line = is_hexadecimal line && (leb 2 (length line) && leb (length line) 2938)

-- a frame as a line: its digits in capitals, and a newline
abbrev pub frame_line : List ℕ → List ℕ
frame_line f = text_of f ++ (10 ∷ [])

-- the cut of a message as lines, with Link ID 00000001
unfoldable pub message_text : TransactionNumber → List ℕ → List ℕ
message_text t m = joined (map frame_line (message_frames 1 t m))

-- `!11`, and a newline
abbrev pub refused_text : List ℕ
refused_text = 33 ∷ 49 ∷ 49 ∷ 10 ∷ []

-- what a line writes under the next number t
unfoldable pub line_text : TransactionNumber → List ℕ → List ℕ
line_text t line = cond (is_message line) (message_text t (octets_of line)) refused_text

-- the next number after it: a line that is refused spends none
unfoldable pub line_next : TransactionNumber → List ℕ → TransactionNumber
line_next t line = cond (is_message line) (number_after t) t

-- document 01's number and values of an answer
abbrev pub told : Result LineText OutputTooShort → Told
told (Ok t) = answered "text" (t.length ∷ t.next.0 ∷ [])
told (Err e) = refused 11

-- what the writer of a text answered, with the next number
abbrev pub with_next : Result ℕ WrongArgument → TransactionNumber → Result LineText OutputTooShort
with_next (Ok n) next = Ok (record { length = n; next = next })
with_next (Err e) next = Err (record {})

-- ONE LINE: its answer and the output after it
abbrev pub line_written : TransactionNumber → List ℕ → List ℕ → Result LineText OutputTooShort
line_written t line output = with_next (written true (line_text t line) output) (line_next t line)

abbrev pub line_output : TransactionNumber → List ℕ → List ℕ → List ℕ
line_output t line output = output_after true (line_text t line) output
