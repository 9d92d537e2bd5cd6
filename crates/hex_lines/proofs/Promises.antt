-- The promises of `specs/Promises.antt`: those of any writer of a text, and by the length of a line.
use Prim.Native.Nat.{ℕ, ◌/◌, ◌%◌, ◌≤◌, ◌<◌}
use native.Mathlib.Omega.{arith}
use mathlib.Core.Bool.{true, false, not}
use mathlib.Core.List.{List}
use mathlib.Core.Path.{◌≡◌, refl, sym, ◌∙◌}
use lib.Dec.{eqb, leb}
use lib.ListN.{length, take}
use lib.Seq.{length-take-le, take_all}
use borrow.Author.Tests.{leb-true, leb-false, le-leb, lt-leb, not-true, not-false}
use Rattle.octets.specs.Told.{refused}
use Rattle.octets.specs.Writing.{told as writer_told, written}
use Rattle.octets.proofs.Tables.{by-table}
use Rattle.octets.proofs.Tests.{cases, both_hold, lt_not_le}
use Rattle.octets.proofs.Writing.{refusal-keeps as writer-keeps}
use Rattle.hexadecimal.specs.Hex.{all_digits, is_hexadecimal, octets_of}
use Rattle.hexadecimal.proofs.Laws.{length-octets}
use Rattle.transactions.specs.Numbers.{number_after}
use Rattle.transactions.specs.declared.TransactionNumber.{TransactionNumber}
use Rattle.transactions.proofs.Laws.{seg_n-small}
use Rattle.hex_lines.specs.Lines.{is_message, message_text, refused_text, line_text, line_next, told, with_next, line_written}
use Rattle.hex_lines.specs.Promises.{line_rows, LineTable, RefusalKeeps, is_none, AllLinesWrite, Enough, FrontDoesTheSame}
use Rattle.hex_lines.proofs.Laws.{text-long}
use Rattle.std.specs.Prelude.{Result, Ok, Err}
use Rattle.octets.specs.declared.WrongArgument.{WrongArgument}

pub line-table : LineTable
unfolding written
line-table t line output =
    by-table (told (line_written t line output)) (line_rows t line output) refl
    (rw (lt_not_le (length output) (length (line_text t line))) (cases (leb (length (line_text t line)) (length output)) (λ e. rw e) (λ e. rw e)))

-- the next number takes nothing from a refusal
refused-writer : (w : Result ℕ WrongArgument) (next : TransactionNumber) (n : ℕ) → told (with_next w next) ≡ refused n → writer_told w ≡ refused n
refused-writer (Ok k) next n e = let z : ◌≡◌ {A = ℕ} 0 1 = cc in absurd (omega arith)
refused-writer (Err r) next n e = e

pub refusal-keeps : RefusalKeeps
refusal-keeps t line output n e =
    writer-keeps true (line_text t line) output n (refused-writer (written true (line_text t line) output) (line_next t line) n e)

-- `is_message` in document 01's words
none-no-message : (line : List ℕ) → is_none line ≡ not (is_message line)
none-no-message line =
    rw (lt_not_le (length line) 2, lt_not_le 2938 (length line))
    (cases (eqb (length line % 2) 0) (λ e. rw e (cases (all_digits line) (λ d. rw d (cases (leb 2 (length line)) (λ l. rw l) (λ l. rw l))) (λ d. rw d))) (λ e. rw e))

module _ (t : TransactionNumber) (line : List ℕ) where
  by-none : is_message line ≡ false → (line_text t line ≡ refused_text) × (line_next t line ≡ t)
  unfolding line_text line_next
  by-none e = rw e (refl, refl)

  by-message : is_message line ≡ true → (line_text t line ≡ message_text t (octets_of line)) × (line_next t line ≡ number_after t)
  unfolding line_text line_next
  by-message e = rw e (refl, refl)

pub all-lines-write : AllLinesWrite
unfolding message_text
all-lines-write t line = record {
  none = λ n. by-none t line (not-true _ (sym (none-no-message line) ∙ n));
  message = λ n. by-message t line (not-false _ (sym (none-no-message line) ∙ n));
}

-- how many octets a message has
message-length : (line : List ℕ) → is_message line ≡ true → (1 ≤ length line / 2) × (length line / 2 ≤ 1469)
message-length line e =
    let a = both_hold {a = is_hexadecimal line} e in
    let b = both_hold {a = leb 2 (length line)} a.1 in
    (omega (arith, leb-true 2 (length line) b.0), omega (arith, leb-true (length line) 2938 b.1))

pub enough : Enough
unfolding line_text
enough t line =
    cases (is_message line)
    (λ e. rw e
    (let b = message-length line e in
    let m = octets_of line in
    let n = length-octets line in
    omega (arith, text-long t m (omega arith), seg_n-small (length m) (omega arith))))
    (λ e. rw e (omega arith))

-- a line longer than any message is none
long-none : (line : List ℕ) → 2938 < length line → is_message line ≡ false
long-none line h =
    cases (is_hexadecimal line) (λ e. rw (e, le-leb 2 (length line) (omega arith), lt-leb (length line) 2938 h)) (λ e. rw e)

pub front-does-the-same : FrontDoesTheSame
unfolding line_text line_next
front-does-the-same t line =
    cases (leb (length line) 2939)
    (λ e. rw (take_all 2939 line (leb-true (length line) 2939 e)) (refl, refl))
    (λ e. let long = leb-false (length line) 2939 e in
    rw (long-none line (omega arith), long-none (take 2939 line) (omega (arith, length-take-le 2939 line (omega arith)))) (refl, refl))
