-- The first piece of a line, where it is short, is held by one copy.
use Prim.Native.Nat.{ℕ, ◌+◌, ◌-◌, ◌≤◌, ◌<◌}
use native.Mathlib.Nat.{zero-add}
use native.Mathlib.Omega.{arith}
use mathlib.Core.Bool.{true, false, not, cond}
use mathlib.Core.List.{List, [], ◌∷◌, ◌++◌, append_assoc, append-nil}
use mathlib.Core.Path.{◌≡◌, refl, sym, ap, ◌∙◌}
use lib.Dec.{eqb}
use lib.ListN.{length, set, length-append}
use lib.Seq.{take-length, length-take-le}
use borrow.Author.Tests.{eq-eqb, le-leb, lt-leb}
use Rattle.octets.specs.Parts.{write, copied}
use Rattle.octets.proofs.Tests.{cases}
use Rattle.octets.proofs.Parts.{write-length, write-nothing, write-octet, copied-part}
use Rattle.held_line.specs.Held.{count_after, buffer_after}
use Rattle.held_line.specs.Lines.{ends_in_return, without_return, line_of, held_if, settled, held_character, held_piece}
use Rattle.held_line.specs.declared.HeldLine.{HeldLine}
use Rattle.held_line.proofs.Promises.{ends_snoc, without-snoc, with-return, no_return}

-- a text at the start, and no carriage return behind it
abbrev written : List ℕ → List ℕ → HeldLine
written characters d = line_of (write characters 0 d) (length d) false

-- what is held of a short piece
abbrev shortly : List ℕ → List ℕ → HeldLine
shortly characters p = line_of (write characters 0 (without_return p)) (length (without_return p)) (ends_in_return p)

pub held-empty : (l : HeldLine) (p : List ℕ) → length p ≡ 0 → l ≡ held_piece l p
unfolding held_piece
held-empty l [] e = refl
held-empty l (c ∷ p) e = absurd (omega arith)

module _ (characters : List ℕ) (long : length characters ≡ 64) where
  one_more : (d : List ℕ) (c : ℕ) → length d < 64 → held_if (written characters d) true c ≡ written characters (d ++ (c ∷ []))
  unfolding count_after buffer_after
  one_more d c few =
      let same : length (write characters 0 d) ≡ 64 = write-length characters 0 d (omega arith) ∙ long in
      let next : set (write characters 0 d) (length d) c ≡ write characters 0 (d ++ (c ∷ [])) = rw zero-add at (write-octet characters 0 d c (omega arith)) in
      let n : length d + 1 ≡ length (d ++ (c ∷ [])) = omega (arith, length-append d (c ∷ [])) in
      rw (eq-eqb (length (write characters 0 d)) 64 same, le-leb (length d) 64 (omega arith), lt-leb 64 (length d) few, next, n)

  settled-short : (p : List ℕ) → length p ≤ 64 → settled (shortly characters p) ≡ written characters p
  settled-short p few =
      cases (ends_in_return p)
      (λ e. let w = with-return p e in
      rw e (one_more (without_return p) 13 (omega (arith, ap length w, length-append (without_return p) (13 ∷ [])))
      ∙ ap (written characters) (sym w)))
      (λ e. rw (e, no_return p e))

  short-next : (p : List ℕ) (c : ℕ) → length p < 64 → held_character (shortly characters p) c ≡ shortly characters (p ++ (c ∷ []))
  unfolding held_character
  short-next p c few =
      ap (λ (l : HeldLine). let x : HeldLine = held_if l (not (eqb c 13)) c in line_of x.characters x.count (eqb c 13)) (settled-short p (omega arith))
      ∙ rw (ends_snoc p c, without-snoc p c) (cases (eqb c 13) (λ e. rw e) (λ e. rw e (one_more p c few)))

  short_on : (q p : List ℕ) → length (q ++ p) ≤ 64 → held_piece (shortly characters q) p ≡ shortly characters (q ++ p)
  unfolding held_piece
  short_on q [] few = rw (append-nil q)
  short_on q (c ∷ p) few =
      let e = append_assoc q (c ∷ []) p in
      rw (short-next q c (omega (arith, length-append q (c ∷ p))))
      (short_on (q ++ (c ∷ [])) p (rw e few) ∙ ap (shortly characters) e)

  held-short : (p : List ℕ) → length p ≤ 64 → held_piece (line_of characters 0 false) p ≡ shortly characters p
  unfolding without_return
  held-short p few = rw write-nothing at (short_on [] p few)

  -- the copy, of the characters that a carriage return at the end is none of
  pub held-copied : (p : List ℕ) (count : ℕ) → length p ≤ 64 → count ≡ cond (ends_in_return p) (length p - 1) (length p)
      → line_of (copied characters 0 p 0 count) count (ends_in_return p) ≡ held_piece (line_of characters 0 false) p
  unfolding without_return
  held-copied p count few e =
      rw (held-short p few, e)
      (cases (ends_in_return p)
      (λ t. rw (t, copied-part characters 0 p 0 (length p - 1) (omega arith) (omega arith), length-take-le (length p - 1) p (omega arith)))
      (λ t. rw (t, copied-part characters 0 p 0 (length p) (omega arith) (omega arith), take-length p)))
