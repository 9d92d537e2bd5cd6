-- A line's text behind what waits, and what a turn leaves of the line.
use Prim.Native.Nat.{ℕ, ◌+◌, ◌≤◌}
use native.Mathlib.Omega.{arith}
use mathlib.Core.List.{List}
use mathlib.Core.Path.{◌≡◌, ap}
use lib.ListN.{length}
use Rattle.octets.specs.Parts.{write}
use Rattle.octets.proofs.Tests.{cases}
use Rattle.octets.proofs.Writing.{written-fits, output-fits}
use Rattle.transactions.specs.declared.TransactionNumber.{TransactionNumber}
use Rattle.hex_lines.specs.Lines.{line_text, line_next, with_next, line_written, line_output}
use Rattle.hex_lines.specs.declared.LineText.{LineText}
use Rattle.hex_lines.specs.declared.OutputTooShort.{OutputTooShort}
use Rattle.hex_lines.proofs.Promises.{enough}
use Rattle.lines.specs.Streams.{is_whole}
use Rattle.lines.proofs.Laws.{behind, behind-long}
use Rattle.segment_lines.specs.declared.Progress.{Progress}
use Rattle.segment_lines.specs.Turns.{Turn}
use Rattle.std.specs.Prelude.{Result, Ok, Err}
use Rattle.octets.specs.declared.WrongArgument.{WrongArgument}

module _ (number : TransactionNumber) (held output : List ℕ) (at : ℕ) (fits : at + 3776 ≤ length output) where
  abbrev pub text : List ℕ
  text = line_text number held

  short : length text ≤ 3776
  short = enough number held

  room : length text ≤ length (behind output at)
  room = omega (arith, short, behind-long output at (omega arith))

  pub text-written : line_written number held (behind output at) ≡ Ok (record { length = length text; next = line_next number held })
  text-written = ap (λ (w : Result ℕ WrongArgument). with_next w (line_next number held)) (written-fits text (behind output at) room)

  pub text-never : {e : OutputTooShort} → line_written number held (behind output at) ≡ Err e → ⊥
  text-never e = let z : ◌≡◌ {A = ℕ} 0 1 = cc text-written in omega arith

  pub text-counts : {t : LineText} → line_written number held (behind output at) ≡ Ok t → (t.length ≡ length text) × (t.next ≡ line_next number held)
  text-counts {t} e =
      let same : t ≡ record { length = length text; next = line_next number held } = cc text-written in
      (ap (λ (u : LineText). u.length) same, ap (λ (u : LineText). u.next) same)

  pub text-output : line_output number held (behind output at) ≡ write (behind output at) 0 text
  text-output = output-fits text (behind output at) room

  pub text-room : at + length text ≤ length output
  text-room = omega (arith, short)

-- after a turn the line's buffer holds no more than it has room for
pub turn-few : {p : Progress} {input line output : List ℕ} {r : Progress} {input_after line_after output_after : List ℕ}
    → Turn p input line output r input_after line_after output_after → r.held ≤ length line_after
turn-few t =
    cases (is_whole t.read.streams t.read.held)
    (λ e. let n = (t.whole e).none in omega arith)
    (λ e. rw (t.begun e).0 t.piece.few)
