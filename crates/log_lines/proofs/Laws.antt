-- Laws of opening lines: what their digits tell.
use Rattle.std.specs.Prelude.{Some, None}
use Prim.Native.Nat.{ℕ, ◌%◌, ◌≤◌}
use native.Mathlib.Omega.{arith}
use mathlib.Core.Bool.{true}
use mathlib.Core.List.{List, append-nil}
use mathlib.Core.Path.{◌≡◌, ◌∙◌}
use lib.Dec.{leb, eqb}
use lib.ListN.{length, take, drop, get_or, replicate, length-drop}
use lib.Seq.{take_all}
use borrow.Author.Tests.{leb-true, eqb-true}
use Rattle.octets.specs.Numbers.{big32}
use Rattle.octets.proofs.Parts.{write-start}
use Rattle.octets.proofs.Tests.{cases, both_hold}
use Rattle.hexadecimal.specs.Hex.{all_digits, octets_of, decoded_of, decoded_output}
use Rattle.std.specs.Prelude.{Ok}
use Rattle.hexadecimal.proofs.Laws.{length-octets}
use Rattle.hexadecimal.proofs.Readings.{read-octets, read-output}
use Rattle.log_lines.specs.Lines.{begins_opening, socket_in, opening_of}

module _ (line : List ℕ) (begins : begins_opening line ≡ true) where
  pub begun-so : (length line ≡ 10) × (49 ≤ get_or line 0 0) × (get_or line 0 0 ≤ 56)
  unfolding begins_opening
  begun-so =
      let a = both_hold {a = eqb (length line) 10} begins in
      let b = both_hold {a = leb 49 (get_or line 0 0)} a.1 in
      let d = both_hold {a = leb (get_or line 0 0) 56} b.1 in
      (eqb-true (length line) 10 a.0, leb-true 49 (get_or line 0 0) b.0, leb-true (get_or line 0 0) 56 d.0)

  digits_long : length (drop 2 line) ≡ 8
  digits_long = omega (arith, length-drop 2 line, begun-so)

  pub all_eight : take 8 (drop 2 line) ≡ drop 2 line
  all_eight = take_all 8 (drop 2 line) (omega (arith, digits_long))

  abbrev id_room : List ℕ
  id_room = replicate 4 0

  -- eight digits, or the line is no opening
  pub opening-digits : {n : ℕ} → decoded_of (drop 2 line) id_room ≡ Ok n
      → opening_of line ≡ Some (record { socket = socket_in line; id = big32 (decoded_output (drop 2 line) id_room) 0 })
  unfolding opening_of
  opening-digits e =
      let r = read-octets (drop 2 line) id_room e in
      let d = both_hold {a = eqb (length (drop 2 line) % 2) 0} r.0 in
      let four : length (octets_of (drop 2 line)) ≡ 4 = omega (arith, length-octets (drop 2 line), digits_long) in
      let out : decoded_output (drop 2 line) id_room ≡ octets_of (drop 2 line) =
      read-output (drop 2 line) id_room e ∙ write-start id_room (octets_of (drop 2 line)) ∙ rw four (append-nil (octets_of (drop 2 line))) in
      rw (begins, d.1, out)

  pub opening-wrong : ((n : ℕ) → decoded_of (drop 2 line) id_room ≡ Ok n → ⊥) → opening_of line ≡ None
  unfolding opening_of decoded_of
  opening-wrong h =
      rw begins (cases (all_digits (drop 2 line))
      (λ p. absurd (h 4 (rw (digits_long, p))))
      (λ p. rw p))
