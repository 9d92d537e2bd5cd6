-- The promises of `specs/Promises.antt`.
use Prim.Native.Nat.{ℕ, suc, ◌-◌, ◌≤◌}
use native.Mathlib.Numerals.{add-one}
use native.Mathlib.Omega.{arith}
use mathlib.Core.Bool.{Bool, true, false, not, cond, false≢true}
use mathlib.Core.List.{List, [], ◌∷◌, ◌++◌, append_assoc, append-nil}
use mathlib.Core.Path.{◌≡◌, refl, sym, ap, ◌∙◌, subst}
use lib.Dec.{leb, ltb, eqb}
use lib.ListN.{length, take, get_or, length-set, length-append}
use lib.Seq.{take_all, take-suc, take-suc-set, length-take-le, take-append_seam, get_or-append_seam}
use borrow.Author.Tests.{le-leb, lt-leb, lt-ltb, eq-eqb, eqb-true, leb-true, leb-false}
use Rattle.octets.proofs.Tests.{cases}
use Rattle.held_line.specs.Held.{is_digit, full_after, held_after, held_from, held_of, full_count, full_buffer, count_after, buffer_after}
use Rattle.held_line.specs.Lines.{ends_in_return, without_return, empty_line, held_if, settled, held_character, held_piece, begun, held_text, Holds}
use Rattle.held_line.specs.Promises.{BufferHolds, LineHolds, HeldDoesTheSame}
use Rattle.held_line.specs.declared.HeldLine.{HeldLine}
use Rattle.held_line.proofs.Laws.{Alike, same, alike-after, held-few, alike_same, held-append, held-some}

-- a line character by character, behind what is held of a line w
held-alike : (h w line : List ℕ) → length h ≤ 64 → Alike h w → Alike (held_from h line) (w ++ line)
held-alike h w [] b x = rw (append-nil w) x
held-alike h w (c ∷ line) b x =
    subst (λ (l : List ℕ). Alike (held_from (held_after h c) line) l) (append_assoc w (c ∷ []) line)
    (held-alike (held_after h c) (w ++ (c ∷ [])) line (held-few h c b) (alike-after c b x))

pub held-does-the-same : HeldDoesTheSame
held-does-the-same line = alike_same (held-alike [] [] line (omega arith) (same refl))

-- ---- the buffer

module _ (line : List ℕ) (c : ℕ) (long : length line ≡ 64) where
  full-holds : (take (full_count line c) (full_buffer line c) ≡ full_after line c) × (length (full_buffer line c) ≡ 64) × (full_count line c ≤ 64)
  unfolding full_count full_buffer full_after
  full-holds =
      let all : take 64 line ≡ line = take_all 64 line (omega arith) in
      cases (is_digit (get_or line 63 0))
      (λ p. rw p (cases (is_digit c) (λ q. rw q (refl, long, omega arith))
      (λ q. rw q (take-suc-set line 63 c (omega arith), length-set line 63 c ∙ long, omega arith))))
      (λ p. rw p (all, long, omega arith))

pub buffer-holds : BufferHolds
unfolding count_after buffer_after held_after
buffer-holds line held c long few =
    rw (eq-eqb (length line) 64 long, le-leb held 64 few)
    (cases (leb 64 held)
    (λ e. let full : held ≡ 64 = omega (arith, leb-true 64 held e) in
    let all : take held line ≡ line = take_all held line (omega arith) in
    rw (e, all, le-leb 64 (length line) (omega arith)) (full-holds line c long))
    (λ e. let less = leb-false 64 held e in
    rw (e, lt-leb 64 (length (take held line)) (omega (arith, length-take-le held line (omega arith))), add-one held)
    (take-suc-set line held c (omega arith), length-set line held c ∙ long, omega arith)))

-- ---- carriage returns

last_snoc : (l : List ℕ) (c : ℕ) → get_or (l ++ (c ∷ [])) (length (l ++ (c ∷ [])) - 1) 0 ≡ c
last_snoc l c =
    let n : length (l ++ (c ∷ [])) - 1 ≡ length l = omega (arith, length-append l (c ∷ [])) in
    rw n (get_or-append_seam l c [] 0)

pub ends_snoc : (l : List ℕ) (c : ℕ) → ends_in_return (l ++ (c ∷ [])) ≡ eqb c 13
ends_snoc l c = rw (last_snoc l c)

front-snoc : (l : List ℕ) (c : ℕ) → take (length (l ++ (c ∷ [])) - 1) (l ++ (c ∷ [])) ≡ l
front-snoc l c =
    let n : length (l ++ (c ∷ [])) - 1 ≡ length l = omega (arith, length-append l (c ∷ [])) in
    rw n (take-append_seam l (c ∷ []))

pub without-snoc : (l : List ℕ) (c : ℕ) → without_return (l ++ (c ∷ [])) ≡ cond (eqb c 13) l (l ++ (c ∷ []))
unfolding without_return
without-snoc l c = rw (ends_snoc l c, front-snoc l c)

-- a line that ends in a carriage return is the line without it, and that
pub with-return : (l : List ℕ) → ends_in_return l ≡ true → l ≡ without_return l ++ (13 ∷ [])
unfolding without_return
with-return [] e = absurd (false≢true e)
with-return (x ∷ l) e =
    let n : suc (length (x ∷ l) - 1) ≡ length (x ∷ l) = omega arith in
    let last : get_or (x ∷ l) (length (x ∷ l) - 1) 0 ≡ 13 = eqb-true _ 13 e in
    let split = take-suc (x ∷ l) (length (x ∷ l) - 1) 0 (omega arith) in
    rw e (sym (take_all (suc (length (x ∷ l) - 1)) (x ∷ l) (omega arith)) ∙ split ∙ ap (λ (c : ℕ). take (length (x ∷ l) - 1) (x ∷ l) ++ (c ∷ [])) last)

pub no_return : (l : List ℕ) → ends_in_return l ≡ false → without_return l ≡ l
unfolding without_return
no_return l e = rw e

held-snoc : (l : List ℕ) (c : ℕ) → held_of (l ++ (c ∷ [])) ≡ held_after (held_of l) c
held-snoc l c = held-append [] l (c ∷ [])

-- ---- the line so far

-- the text of a line with a character more, where it is wanted
one_holds : (l : HeldLine) (wanted : Bool) (c : ℕ) → length l.characters ≡ 64 → l.count ≤ 64
    → (held_text (held_if l wanted c) ≡ cond wanted (held_after (held_text l) c) (held_text l))
    × (length (held_if l wanted c).characters ≡ 64)
    × ((held_if l wanted c).count ≤ 64)
one_holds l wanted c long few = cases wanted (λ e. rw e (buffer-holds l.characters l.count c long few)) (λ e. rw e (refl, long, few))

module _ (l : HeldLine) (line : List ℕ) (h : Holds l line) where
  settled-one : (held_text (settled l) ≡ cond l.returned (held_after (held_text l) 13) (held_text l))
      × (length (settled l).characters ≡ 64)
      × ((settled l).count ≤ 64)
  settled-one = one_holds l l.returned 13 h.long h.few

  settled-holds : held_text (settled l) ≡ held_of line
  settled-holds =
      settled-one.0
      ∙ cases (ends_in_return line)
      (λ e. rw (h.returned, e, h.text) (sym (held-snoc (without_return line) 13) ∙ ap held_of (sym (with-return line e))))
      (λ e. rw (h.returned, e, h.text) (ap held_of (no_return line e)))

  character-holds : (c : ℕ) → Holds (held_character l c) (line ++ (c ∷ []))
  unfolding held_character
  character-holds c =
      let x = one_holds (settled l) (not (eqb c 13)) c settled-one.1 settled-one.2 in
      record {
        long = x.1;
        few = x.2;
        text = x.0 ∙ rw (settled-holds, without-snoc line c) (cases (eqb c 13) (λ e. rw e) (λ e. rw e (sym (held-snoc line c))));
        returned = sym (ends_snoc line c);
      }

piece-holds : (l : HeldLine) (line piece : List ℕ) → Holds l line → Holds (held_piece l piece) (line ++ piece)
unfolding held_piece
piece-holds l line [] h = rw (append-nil line) h
piece-holds l line (c ∷ piece) h =
    subst (λ (w : List ℕ). Holds (held_piece (held_character l c) piece) w) (append_assoc line (c ∷ []) piece)
    (piece-holds (held_character l c) (line ++ (c ∷ [])) piece (character-holds l line h c))

-- what is held has characters where the line has
some-held : (l : HeldLine) (line : List ℕ) → Holds l line → ltb 0 (begun l) ≡ ltb 0 (length line)
some-held l line h =
    cases (ends_in_return line)
    (λ e. let n = ap length (with-return line e) in
    rw (h.returned, e, lt-ltb 0 (length line) (omega (arith, n, length-append (without_return line) (13 ∷ [])))))
    (λ e. let n : l.count ≡ length (held_of line) = sym (length-take-le l.count l.characters (omega (arith, h.long, h.few))) ∙ ap length (h.text ∙ ap held_of (no_return line e)) in
    rw (h.returned, e, n) (held-some line))

empty_holds : Holds empty_line []
unfolding without_return
empty_holds = record { long = refl; few = omega arith; text = refl; returned = refl }

pub line-holds : LineHolds
line-holds = record { none = empty_holds; piece = piece-holds; end = settled-holds; some = some-held }
