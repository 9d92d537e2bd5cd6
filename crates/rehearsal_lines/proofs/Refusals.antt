-- How a line that is refused is put together in a room of 31 characters.
use Prim.Native.Nat.{ℕ, ◌+◌, ◌≤◌}
use native.Mathlib.Nat.{zero-add}
use native.Mathlib.Omega.{arith}
use mathlib.Core.List.{List, [], ◌∷◌, ◌++◌, append_assoc}
use mathlib.Core.Path.{◌≡◌, sym, ap, ◌∙◌}
use lib.ListN.{length, take, set, replicate, length-append}
use Rattle.octets.specs.Parts.{write, copied}
use Rattle.octets.proofs.Parts.{copied-part, write-length, write-next, write-octet}
use Rattle.line_fields.specs.Lines.{decimal_of, Holds}
use Rattle.line_fields.specs.declared.Characters.{Characters}
use Rattle.line_fields.proofs.Laws.{holds-long, written-front}
use Rattle.rehearsal_lines.specs.Lines.{refused_line}

abbrev word : List ℕ
word = 35 ∷ 32 ∷ 114 ∷ 101 ∷ 102 ∷ 117 ∷ 115 ∷ 101 ∷ 100 ∷ 32 ∷ []

abbrev room : List ℕ
room = replicate 31 0

module _ (c : Characters) (number : ℕ) (twenty : length c.text ≡ 20) (holds : Holds c (decimal_of number)) where
  digits_long : c.length ≡ length (decimal_of number)
  digits_long = holds-long c (decimal_of number) twenty holds

  refused-long : length (refused_line number) ≡ 11 + c.length
  unfolding refused_line
  refused-long = omega (arith, length-append word (decimal_of number ++ (10 ∷ [])), length-append (decimal_of number) (10 ∷ []), digits_long)

  pub refused-few : length (refused_line number) ≤ 31
  refused-few = omega (arith, refused-long, holds.1)

  word-put : copied room 0 word 0 10 ≡ write room 0 word
  word-put = copied-part room 0 word 0 10 (omega arith) (omega arith)

  digits-put : copied (write room 0 word) 10 c.text 0 c.length ≡ write room 0 (word ++ decimal_of number)
  digits-put =
      copied-part (write room 0 word) 10 c.text 0 c.length (omega (arith, write-length room 0 word (omega arith), holds.1)) (omega (arith, holds.1))
      ∙ rw holds.0 (write-next room 0 word (decimal_of number) (omega arith))

  all-put : set (write room 0 (word ++ decimal_of number)) (10 + c.length) 10 ≡ write room 0 (refused_line number)
  unfolding refused_line
  all-put =
      let n : length (word ++ decimal_of number) ≡ 10 + c.length = omega (arith, length-append word (decimal_of number), digits_long) in
      let ends = write-octet room 0 (word ++ decimal_of number) 10 (omega (arith, holds.1)) in
      (rw (zero-add, n) at ends) ∙ ap (write room 0) (append_assoc word (decimal_of number) (10 ∷ []))

  -- a room after the word, and after the digits: with the newline the line stands at its start
  pub put_front : {first second : List ℕ} → first ≡ copied room 0 word 0 10 → second ≡ copied first 10 c.text 0 c.length
      → take (11 + c.length) (set second (10 + c.length) 10) ≡ refused_line number
  put_front p q =
      rw (q, p, word-put, digits-put, all-put)
      (written-front room (refused_line number) (11 + c.length) (sym refused-long) refused-few)
