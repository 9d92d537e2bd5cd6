-- Laws of the lines: a text at the start of a room, decimal digits, and a line field by field.
use Prim.Native.Nat.{ℕ, zero, suc, ◌+◌, ◌*◌, ◌-◌, ◌/◌, ◌%◌, ◌^◌, ◌≤◌, ◌<◌}
use native.Mathlib.Nat.{zero-add, pow-zero, pow-succ', one-le-pow}
use native.Mathlib.Numerals.{add-one}
use native.Mathlib.Omega.{arith}
use mathlib.Core.Bool.{cond}
use mathlib.Core.List.{List, [], ◌∷◌, ◌++◌, map, append_assoc}
use mathlib.Core.Path.{◌≡◌, refl, sym, ap, ◌∙◌}
use lib.Dec.{leb, eqb}
use lib.ListN.{length, take, drop, get_or, replicate, length-append, drop_of_length-le}
use lib.Seq.{drop-cons, length-take-le, take-length}
use borrow.Rule.Slice.PartMut.{put_mid}
use Rattle.std.proofs.lemmas.Slice.{put_mid-paste}
use borrow.Author.Tests.{le-leb, lt-ltb, ne_eqb, leb-true, leb-false}
use Rattle.octets.specs.Parts.{write}
use Rattle.octets.proofs.Parts.{write-front, write-length, write-next, write-nothing}
use Rattle.octets.proofs.Tests.{cases}
use Rattle.hexadecimal.specs.Hex.{text_of, encoded_output}
use Rattle.hexadecimal.proofs.Laws.{length-text}
use Rattle.io.specs.Digits.{hex_digit_ascii, last_digits, IsDigitCount}
use Rattle.line_fields.specs.Lines.{digits_up_to, decimal_of, hexadecimal_of, word_text, field_text, end_before, line_of, Holds}
use Rattle.line_fields.specs.declared.Characters.{Characters}
use Rattle.line_fields.specs.declared.Field.{Field}
use Rattle.line_fields.specs.declared.Word.{Word}
use Rattle.line_fields.specs.declared.Word.TheVariants as W

-- a text written at the start of a room
pub written-front : (room d : List ℕ) (n : ℕ) → n ≡ length d → length d ≤ length room → take n (write room 0 d) ≡ d
written-front room d n e h = rw e (rw zero-add at (write-front room 0 d (omega arith)))

-- a slice's range, written
pub range-write : (line d : List ℕ) (at k : ℕ) → k ≡ length d → put_mid at k line d ≡ write line at d
unfolding write
range-write line d at k e = put_mid-paste at k line d d (length d) refl (sym e) refl ∙ rw (take-length d)

-- so many characters as the text has
pub holds-long : (c : Characters) (text : List ℕ) → length c.text ≡ 20 → Holds c text → c.length ≡ length text
holds-long c text room h = sym (length-take-le c.length c.text (omega (arith, h.1))) ∙ ap length h.0

pub words-short : (word : Word) → length (word_text word) ≤ 20
unfolding word_text
words-short W.Record = omega arith
words-short W.Repeated = omega arith
words-short W.Conflict = omega arith
words-short W.Message = omega arith
words-short W.Refused = omega arith
words-short W.Missing = omega arith
words-short W.Unopened = omega arith
words-short W.End = omega arith
words-short W.Invite = omega arith
words-short W.Capabilities = omega arith
words-short W.Start = omega arith
words-short W.PublicKey = omega arith
words-short W.InputComplete = omega arith
words-short W.Confirmation = omega arith
words-short W.Random = omega arith
words-short W.Data = omega arith
words-short W.Complete = omega arith
words-short W.Failed = omega arith

-- `0x`, and the digits of octets behind it
pub hexadecimal-put : (octets line : List ℕ) (at : ℕ) → at + 2 + 2 * length octets ≤ length line
    → encoded_output octets (write line at (48 ∷ 120 ∷ [])) (at + 2) ≡ write line at (hexadecimal_of octets)
unfolding encoded_output
hexadecimal-put octets line at h =
    let l = write line at (48 ∷ 120 ∷ []) in
    let long = write-length line at (48 ∷ 120 ∷ []) (omega arith) in
    rw (le-leb (at + 2) (length l) (omega arith), le-leb (2 * length octets) (length l - (at + 2)) (omega arith))
    (write-next line at (48 ∷ 120 ∷ []) (text_of octets) (omega arith))

abbrev room : List ℕ
room = replicate 20 0

pub hexadecimal-shown : (octets : List ℕ) → length octets ≤ 4 → take (2 + 2 * length octets) (encoded_output octets (48 ∷ 120 ∷ replicate 18 0) 2) ≡ hexadecimal_of octets
unfolding write
hexadecimal-shown octets h =
    rw (hexadecimal-put octets room 0 (omega arith))
    (written-front room (hexadecimal_of octets) (2 + 2 * length octets) (omega (arith, length-text octets)) (omega (arith, length-text octets)))

-- ---- decimal digits

glyph-small : (d : ℕ) → d < 10 → hex_digit_ascii d ≡ 48 + d
glyph-small d h = rw (lt-ltb d 10 h)

no-digits : (most : ℕ) → digits_up_to most 0 ≡ []
no-digits zero = refl
no-digits (suc most) = refl

tenth : (k n : ℕ) → 10 ^ k ≤ n → 0 < k → 10 ^ (k - 1) ≤ n / 10
tenth zero n h p = absurd (omega arith)
tenth (suc k) n h p = let e : suc k - 1 ≡ k = omega arith in rw e (omega (arith, pow-succ' 10 k))

-- a first digit that is not 0
first-digit : (k n : ℕ) → (0 < suc k → 10 ^ (suc k - 1) ≤ n) → (10 ^ k ≤ n) × (1 ≤ n)
first-digit k n low =
    let e : suc k - 1 ≡ k = omega arith in
    let l : 10 ^ k ≤ n = rw e at (low (omega arith)) in
    (l, omega (arith, one-le-pow k 10 (omega arith)))

-- k digits, the first not 0, are all digits
digits-all : (k most n : ℕ) → n < 10 ^ k → (0 < k → 10 ^ (k - 1) ≤ n) → n ≤ most → last_digits 10 k n ≡ digits_up_to most n
digits-all zero most n high low fits = let z : n ≡ 0 = omega (arith, pow-zero 10) in rw (z, no-digits most)
digits-all (suc k) zero n high low fits = absurd (omega (arith, first-digit k n low))
digits-all (suc k) (suc most) n high low fits =
    let l = first-digit k n low in
    rw (ne_eqb n 0 (λ z. absurd (omega arith)), glyph-small (n % 10) (omega arith))
    (ap (λ (r : List ℕ). r ++ ((48 + n % 10) ∷ [])) (digits-all k most (n / 10) (omega (arith, pow-succ' 10 k)) (tenth k n l.0) (omega arith)))

-- the fewest digits of a number are its decimal text
pub decimal-digits : (n k : ℕ) → IsDigitCount 10 1 n k → last_digits 10 k n ≡ decimal_of n
unfolding decimal_of
decimal-digits n zero f = absurd (omega (arith, f.0))
decimal-digits n (suc zero) f =
    cases (leb n 0) (λ e. let z : n ≡ 0 = omega (arith, leb-true n 0 e) in rw z)
    (λ e. let some : 1 ≤ n = leb-false n 0 e in
    rw (ne_eqb n 0 (λ z. absurd (omega arith))) (digits-all 1 n n f.1 (λ p. some) (omega arith)))
decimal-digits n (suc (suc k)) f =
    let l = first-digit (suc k) n (λ p. f.2 (omega arith)) in
    rw (ne_eqb n 0 (λ z. absurd (omega arith))) (digits-all (suc (suc k)) n n f.1 (λ p. f.2 (omega arith)) (omega arith))

-- a number of so many digits has no more of them
digits_long : (k most n : ℕ) → n < 10 ^ k → length (digits_up_to most n) ≤ k
digits_long k zero n h = omega arith
digits_long zero (suc most) n h = let z : n ≡ 0 = omega (arith, pow-zero 10) in rw z (omega arith)
digits_long (suc k) (suc most) n h =
    cases (eqb n 0) (λ e. rw e (omega arith))
    (λ e. rw e (omega (arith, length-append (digits_up_to most (n / 10)) ((48 + n % 10) ∷ []), digits_long k most (n / 10) (omega (arith, pow-succ' 10 k)))))

pub decimal-long : (k n : ℕ) → 1 ≤ k → n < 10 ^ k → length (decimal_of n) ≤ k
unfolding decimal_of
decimal-long k n some h = cases (eqb n 0) (λ e. rw e (omega arith)) (λ e. rw e (digits_long k n n h))

-- ---- a line, text by text

-- the text of the field at a place
pub text_at : (fields : List Field) (i : ℕ) (d : Field) → i < length fields → get_or (map field_text fields) i [] ≡ field_text (get_or fields i d)
text_at [] i d h = absurd (omega arith)
text_at (f ∷ fields) zero d h = refl
text_at (f ∷ fields) (suc i) d h = text_at fields i d (omega arith)

pub texts-long : (fields : List Field) → length (map field_text fields) ≡ length fields
texts-long [] = refl
texts-long (f ∷ fields) = ap suc (texts-long fields)

ends_at : (ts : List (List ℕ)) (j : ℕ) → end_before (drop j ts) ≡ cond (leb (length ts) j) 10 44
ends_at ts j =
    cases (leb (length ts) j) (λ e. rw (e, drop_of_length-le ts (leb-true (length ts) j e)))
    (λ e. rw (e, drop-cons ts j [] (leb-false (length ts) j e)))

-- the text at a place, and what stands behind it
abbrev pub ended_text : List (List ℕ) → ℕ → List ℕ
ended_text ts i = get_or ts i [] ++ (cond (leb (length ts) (i + 1)) 10 44 ∷ [])

pub line_step : (ts : List (List ℕ)) (i : ℕ) → i < length ts → line_of (drop i ts) ≡ ended_text ts i ++ line_of (drop (i + 1) ts)
unfolding line_of
line_step ts i h =
    rw (add-one i, drop-cons ts i [] h, ends_at ts (suc i))
    (sym (append_assoc (get_or ts i []) (cond (leb (length ts) (suc i)) 10 44 ∷ []) (line_of (drop (suc i) ts))))

pub line-end : line_of [] ≡ []
unfolding line_of
line-end = refl

module _ (ts : List (List ℕ)) (first line : List ℕ) (at i : ℕ) where
  -- what is to be written from the text at place i on
  abbrev rest : List ℕ
  rest = line_of (drop i ts)

  -- a line of which the texts before place i stand at its start: with the rest behind them it is whole
  pub record Begun : Type 0 where
    pub long : at + length rest ≡ length (line_of ts)
    pub whole : write line at rest ≡ write first 0 (line_of ts)

pub begun : (ts : List (List ℕ)) (first : List ℕ) → Begun ts first first 0 0
begun ts first = record { long = omega arith; whole = refl }

-- one text more
pub begun-next : (ts : List (List ℕ)) (first line : List ℕ) (at i next : ℕ) (after : List ℕ) → i < length ts
    → next ≡ at + length (ended_text ts i) → after ≡ write line at (ended_text ts i) → next ≤ length line → Begun ts first line at i → Begun ts first after next (i + 1)
begun-next ts first line at i next after h e q fits b =
    let text = ended_text ts i in
    let more = line_of (drop (i + 1) ts) in
    let step : line_of (drop i ts) ≡ text ++ more = line_step ts i h in
    record {
      long = omega (arith, ap length step, length-append text more, b.long);
      whole = rw (q, e) (write-next line at text more (omega arith) ∙ rw (← step) b.whole);
    }

-- all texts
pub begun_all : (ts : List (List ℕ)) (first line : List ℕ) (at i : ℕ) → length ts ≤ i → at ≤ length first → Begun ts first line at i
    → (at ≡ length (line_of ts)) × (take at line ≡ line_of ts)
begun_all ts first line at i h room b =
    let none : line_of (drop i ts) ≡ [] = rw (drop_of_length-le ts h) line-end in
    let long : at ≡ length (line_of ts) = omega (arith, rw none at b.long) in
    let whole : line ≡ write first 0 (line_of ts) = sym (write-nothing line at) ∙ rw none at b.whole in
    (long, rw (whole, long) (ap (λ (n : ℕ). take n (write first 0 (line_of ts))) (sym (zero-add (length (line_of ts)))) ∙ write-front first 0 (line_of ts) (omega arith)))
