-- How a line of digits is put together.
use Prim.Native.Nat.{ℕ, ◌+◌, ◌*◌, ◌<◌, ◌≤◌}
use native.Mathlib.Nat.{zero-add}
use native.Mathlib.Omega.{arith}
use mathlib.Core.Bool.{true}
use mathlib.Core.List.{List, [], ◌∷◌, ◌++◌, append_assoc}
use mathlib.Core.Path.{◌≡◌, sym, ap, ◌∙◌}
use lib.ListN.{length, set, length-append}
use lib.Seq.{take-length}
use Rattle.octets.specs.Parts.{write, copied}
use Rattle.octets.specs.Writing.{written, output_after}
use Rattle.octets.proofs.Parts.{copied-part, write-next, write-octet, write-length}
use Rattle.octets.proofs.Writing.{written-fits, output-fits, output-short}
use Rattle.hexadecimal.specs.Hex.{text_of, encoded_output, digit_line}
use Rattle.hexadecimal.proofs.Laws.{length-text, encoded-fits}
use Rattle.std.specs.Prelude.{Ok, Err}
use Rattle.octets.specs.Writing.{wrong_argument}

module _ (head octets : List ℕ) where
  pub line-long : length (digit_line head octets) ≡ length head + 2 * length octets + 1
  unfolding digit_line
  line-long = omega (arith, length-append head (text_of octets ++ (10 ∷ [])), length-append (text_of octets) (10 ∷ []), length-text octets)

  module _ (out : List ℕ) where
    pub line-short : length out < length head + 2 * length octets + 1
        → (Err wrong_argument ≡ written true (digit_line head octets) out) × (out ≡ output_after true (digit_line head octets) out)
    line-short h = output-short (digit_line head octets) out (omega (arith, line-long))

    module _ (fits : length head + 2 * length octets + 1 ≤ length out) where
      head-put : copied out 0 head 0 (length head) ≡ write out 0 head
      head-put = copied-part out 0 head 0 (length head) (omega arith) (omega arith) ∙ rw (take-length head)

      text-put : encoded_output octets (write out 0 head) (length head) ≡ write out 0 (head ++ text_of octets)
      text-put =
          let n : length (write out 0 head) ≡ length out = write-length out 0 head (omega arith) in
          encoded-fits octets (write out 0 head) (length head) (omega arith)
          ∙ rw zero-add at (write-next out 0 head (text_of octets) (omega arith))

      pub line-count : Ok (length head + 2 * length octets + 1) ≡ written true (digit_line head octets) out
      line-count = ap Ok (sym line-long) ∙ sym (written-fits (digit_line head octets) out (omega (arith, line-long)))

      pub line-put : set (encoded_output octets (copied out 0 head 0 (length head)) (length head)) (length head + 2 * length octets) 10
          ≡ output_after true (digit_line head octets) out
      unfolding digit_line
      line-put =
          let n : length (head ++ text_of octets) ≡ length head + 2 * length octets = omega (arith, length-append head (text_of octets), length-text octets) in
          let ends = write-octet out 0 (head ++ text_of octets) 10 (omega arith) in
          rw (head-put, text-put) (rw (zero-add, n) at ends)
          ∙ ap (write out 0) (append_assoc head (text_of octets) (10 ∷ []))
          ∙ sym (output-fits (digit_line head octets) out (omega (arith, line-long)))
