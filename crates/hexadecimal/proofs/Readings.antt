-- What the answer of a reading into a room tells of the text and of the room.
use Prim.Native.Nat.{ℕ, ◌/◌, ◌≤◌, ◌<◌}
use native.Mathlib.Nat.{zero-add}
use native.Mathlib.Omega.{arith}
use mathlib.Core.Bool.{true, false}
use mathlib.Core.List.{List}
use mathlib.Core.Path.{◌≡◌, refl, sym, ◌∙◌}
use lib.Dec.{leb}
use lib.ListN.{length, take}
use borrow.Author.Tests.{le-leb, leb-true, leb-false}
use Rattle.octets.specs.Parts.{write}
use Rattle.octets.proofs.Parts.{write-front}
use Rattle.octets.proofs.Tests.{cases}
use Rattle.hexadecimal.specs.Hex.{is_hexadecimal, octets_of, decoded_of, decoded_output}
use Rattle.std.specs.Prelude.{Ok, Err}
use Rattle.hexadecimal.specs.declared.DecodeError.TheVariants.{NotHexadecimal, TooLong}
use Rattle.hexadecimal.proofs.Laws.{length-octets}

module _ (line room : List ℕ) where
  -- no digits, or an odd number of them
  pub read_none : decoded_of line room ≡ Err NotHexadecimal → is_hexadecimal line ≡ false
  unfolding decoded_of
  read_none =
      cases (is_hexadecimal line)
      (λ p. rw p (cases (leb (length line / 2) (length room))
      (λ q. rw q (λ e. let z : ◌≡◌ {A = ℕ} 0 1 = cc in absurd (omega arith)))
      (λ q. rw q (λ e. let z : ◌≡◌ {A = ℕ} 0 1 = cc in absurd (omega arith)))))
      (λ p e. p)

  -- more octets than the room has
  pub read-long : decoded_of line room ≡ Err TooLong → (is_hexadecimal line ≡ true) × (length room < length line / 2) × (decoded_output line room ≡ room)
  unfolding decoded_of decoded_output
  read-long =
      cases (is_hexadecimal line)
      (λ p. rw p (cases (leb (length line / 2) (length room))
      (λ q. rw q (λ e. let z : ◌≡◌ {A = ℕ} 0 1 = cc in absurd (omega arith)))
      (λ q. rw q (λ e. (refl, leb-false (length line / 2) (length room) q, refl)))))
      (λ p. rw p (λ e. let z : ◌≡◌ {A = ℕ} 0 1 = cc in absurd (omega arith)))

  module _ {n : ℕ} where
    pub read-octets : decoded_of line room ≡ Ok n → (is_hexadecimal line ≡ true) × (n ≡ length line / 2) × (n ≤ length room)
    unfolding decoded_of
    read-octets =
        cases (is_hexadecimal line)
        (λ p. rw p (cases (leb (length line / 2) (length room))
        (λ q. rw q (λ e. let k : n ≡ length line / 2 = cc in (refl, k, omega (arith, leb-true (length line / 2) (length room) q))))
        (λ q. rw q (λ e. let z : ◌≡◌ {A = ℕ} 0 1 = cc in absurd (omega arith)))))
        (λ p. rw p (λ e. let z : ◌≡◌ {A = ℕ} 0 1 = cc in absurd (omega arith)))

    pub read-output : decoded_of line room ≡ Ok n → decoded_output line room ≡ write room 0 (octets_of line)
    unfolding decoded_output
    read-output e = let r = read-octets e in rw (r.0, le-leb (length line / 2) (length room) (omega arith))

    pub read-front : decoded_of line room ≡ Ok n → (n ≡ length (octets_of line)) × (take n (decoded_output line room) ≡ octets_of line)
    read-front e =
        let r = read-octets e in
        let k : n ≡ length (octets_of line) = r.1 ∙ sym (length-octets line) in
        (k, rw (read-output e, k) (rw zero-add at (write-front room 0 (octets_of line) (omega arith))))
