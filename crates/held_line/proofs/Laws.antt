-- A held text and its line: the same, or both long and alike in what tells a line's kind.
use Prim.Native.Nat.{ℕ, suc, ◌%◌, ◌≤◌, ◌<◌}
use native.Mathlib.Omega.{arith}
use mathlib.Core.Bool.{Bool, true, false, ◌&&◌, false≢true}
use mathlib.Core.List.{List, [], ◌∷◌, ◌++◌}
use mathlib.Core.Path.{◌≡◌, refl, sym, ap, ◌∙◌}
use lib.Dec.{leb, ltb, eqb}
use lib.ListN.{length, take, drop, get_or, length-append, length-drop, get_or-append}
use lib.Seq.{length-take-le, take-suc, take_all, get_or-take}
use borrow.Author.Tests.{le-leb, lt-ltb, ne_eqb, leb-true, leb-false}
use Rattle.octets.proofs.Tests.{cases, both_hold}
use Rattle.hexadecimal.specs.Hex.{value_of, all_digits, octets_of}
use Rattle.hexadecimal.proofs.Laws.{length-octets}
use Rattle.log_lines.specs.Lines.{is_frame, begins_opening}
use Rattle.import_lines.specs.Lines.{plain_step, other_step, sent_line, unheard_step, line_step, line_area}
use Rattle.import_tray.specs.declared.Tray.{Tray}
use Rattle.import_lines.proofs.Laws.{long-frames, long-sent}
use Rattle.held_line.specs.Held.{is_digit, full_after, held_after, held_from}

-- ---- digits, with one character more

pub digits-snoc : (l : List ℕ) (c : ℕ) → all_digits (l ++ (c ∷ [])) ≡ (all_digits l && is_digit c)
digits-snoc [] c = cases (is_digit c) (λ e. rw e) (λ e. rw e)
digits-snoc (x ∷ l) c = cases (leb (value_of x) 15) (λ e. rw e (digits-snoc l c)) (λ e. rw e)

first-snoc : (l : List ℕ) (c : ℕ) → 0 < length l → get_or (l ++ (c ∷ [])) 0 0 ≡ get_or l 0 0
first-snoc l c h = get_or-append l (c ∷ []) 0 0 h

behind-snoc : (l : List ℕ) (c : ℕ) → 0 < length l → drop 1 (l ++ (c ∷ [])) ≡ drop 1 l ++ (c ∷ [])
behind-snoc [] c h = absurd (omega arith)
behind-snoc (x ∷ l) c h = refl

-- a text of 64 characters is its first 63 and the last
full-split : (l : List ℕ) → length l ≡ 64 → l ≡ take 63 l ++ (get_or l 63 0 ∷ [])
full-split l h = sym (take_all 64 l (omega arith)) ∙ take-suc l 63 0 (omega arith)

-- ---- the held text h and the line w

-- both are long, begin alike, and are alike in whether all behind the first character are digits, and if so in whether their number is even
pub record Long (h w : List ℕ) : Type 0 where
  pub held : 63 ≤ length h
  pub line : 63 ≤ length w
  pub first : get_or h 0 0 ≡ get_or w 0 0
  pub digits : all_digits (drop 1 h) ≡ all_digits (drop 1 w)
  pub parity : all_digits (drop 1 w) ≡ true → length h % 2 ≡ length w % 2

pub data Alike (h w : List ℕ) : Type 0 where
  same : h ≡ w → Alike h w
  long : Long h w → Alike h w

module _ (a : Bool) where
  and-true : (a && true) ≡ a
  and-true = cases a (λ e. rw e) (λ e. rw e)

  and-false : (a && false) ≡ false
  and-false = cases a (λ e. rw e) (λ e. rw e)

-- ---- one character more

length-snoc : (l : List ℕ) (c : ℕ) → length (l ++ (c ∷ [])) ≡ suc (length l)
length-snoc l c = omega (arith, length-append l (c ∷ []))

-- the digits behind the first character
behind-digits : (l : List ℕ) (c : ℕ) → 0 < length l → all_digits (drop 1 (l ++ (c ∷ []))) ≡ (all_digits (drop 1 l) && is_digit c)
behind-digits l c h = ap all_digits (behind-snoc l c h) ∙ digits-snoc (drop 1 l) c

module _ {h w : List ℕ} (l : Long h w) (c : ℕ) where
  line_first : get_or h 0 0 ≡ get_or (w ++ (c ∷ [])) 0 0
  line_first = l.first ∙ sym (first-snoc w c (omega (arith, l.line)))

  line-digits : all_digits (drop 1 (w ++ (c ∷ []))) ≡ (all_digits (drop 1 w) && is_digit c)
  line-digits = behind-digits w c (omega (arith, l.line))

  -- both take it
  both-take : Long (h ++ (c ∷ [])) (w ++ (c ∷ []))
  both-take = record {
    held = omega (arith, length-snoc h c, l.held);
    line = omega (arith, length-snoc w c, l.line);
    first = first-snoc h c (omega (arith, l.held)) ∙ line_first;
    digits = behind-digits h c (omega (arith, l.held)) ∙ rw l.digits (sym line-digits);
    parity = λ d. omega (arith, length-snoc h c, length-snoc w c, l.parity (both_hold {a = all_digits (drop 1 w)} (sym line-digits ∙ d)).0);
  }

  -- the held text stays
  stays : all_digits (drop 1 h) ≡ false → Long h (w ++ (c ∷ []))
  stays n =
      let none : all_digits (drop 1 (w ++ (c ∷ []))) ≡ false = line-digits ∙ rw (← l.digits, n) in
      record {
        held = l.held;
        line = omega (arith, length-snoc w c, l.line);
        first = line_first;
        digits = n ∙ sym none;
        parity = λ d. absurd (false≢true (sym none ∙ d));
      }

  module _ (full : length h ≡ 64) where
    front_long : length (take 63 h) ≡ 63
    front_long = length-take-le 63 h (omega arith)

    first-same : get_or (take 63 h) 0 0 ≡ get_or h 0 0
    first-same = get_or-take 63 h 0 0 (omega arith)

    digits-full : all_digits (drop 1 h) ≡ (all_digits (drop 1 (take 63 h)) && is_digit (get_or h 63 0))
    digits-full =
        ap (λ (t : List ℕ). all_digits (drop 1 t)) (full-split h full) ∙ behind-digits (take 63 h) (get_or h 63 0) (omega (arith, front_long))

    -- another character takes the last place
    other_last : is_digit c ≡ false → Long (take 63 h ++ (c ∷ [])) (w ++ (c ∷ []))
    other_last n =
        let none : all_digits (drop 1 (w ++ (c ∷ []))) ≡ false = line-digits ∙ rw n (and-false (all_digits (drop 1 w))) in
        record {
          held = omega (arith, length-snoc (take 63 h) c, front_long);
          line = omega (arith, length-snoc w c, l.line);
          first = first-snoc (take 63 h) c (omega (arith, front_long)) ∙ first-same ∙ line_first;
          digits = (behind-digits (take 63 h) c (omega (arith, front_long)) ∙ rw n (and-false (all_digits (drop 1 (take 63 h))))) ∙ sym none;
          parity = λ d. absurd (false≢true (sym none ∙ d));
        }

    -- a digit takes one away
    digit-away : is_digit (get_or h 63 0) ≡ true → is_digit c ≡ true → Long (take 63 h) (w ++ (c ∷ []))
    digit-away p q =
        let front : all_digits (drop 1 (take 63 h)) ≡ all_digits (drop 1 h) = sym (digits-full ∙ rw p (and-true (all_digits (drop 1 (take 63 h))))) in
        let line : all_digits (drop 1 (w ++ (c ∷ []))) ≡ all_digits (drop 1 w) = line-digits ∙ rw q (and-true (all_digits (drop 1 w))) in
        record {
          held = omega (arith, front_long);
          line = omega (arith, length-snoc w c, l.line);
          first = first-same ∙ line_first;
          digits = front ∙ l.digits ∙ sym line;
          parity = λ d. omega (arith, front_long, length-snoc w c, l.parity (sym line ∙ d));
        }

    full-long : Long (full_after h c) (w ++ (c ∷ []))
    unfolding full_after
    full-long =
        cases (is_digit (get_or h 63 0))
        (λ p. rw p (cases (is_digit c) (λ q. rw q (digit-away p q)) (λ q. rw q (other_last q))))
        (λ p. rw p (stays (digits-full ∙ rw p (and-false (all_digits (drop 1 (take 63 h)))))))

as_long : {h w : List ℕ} → 63 ≤ length h → Alike h w → Long h w
as_long {h} {w} b (same e) = rw (← e) (record { held = b; line = b; first = refl; digits = refl; parity = λ d. refl })
as_long b (long l) = l

pub alike-after : {h w : List ℕ} (c : ℕ) → length h ≤ 64 → Alike h w → Alike (held_after h c) (w ++ (c ∷ []))
unfolding held_after
alike-after {h} {w} c b x =
    cases (leb 64 (length h))
    (λ e. let full : length h ≡ 64 = omega (arith, leb-true 64 (length h) e) in
    rw e (long (full-long (as_long (omega arith) x) c full)))
    (λ e. rw e (shorter x))
  where
    shorter : Alike h w → Alike (h ++ (c ∷ [])) (w ++ (c ∷ []))
    shorter (same e) = same (ap (λ (l : List ℕ). l ++ (c ∷ [])) e)
    shorter (long l) = long (both-take l c)

pub held-few : (h : List ℕ) (c : ℕ) → length h ≤ 64 → length (held_after h c) ≤ 64
unfolding held_after full_after
held-few h c b =
    cases (leb 64 (length h))
    (λ e. let full : length h ≡ 64 = omega (arith, leb-true 64 (length h) e) in
    let front = length-take-le 63 h (omega arith) in
    rw e (cases (is_digit (get_or h 63 0))
    (λ p. rw p (cases (is_digit c) (λ r. rw r (omega (arith, front))) (λ r. rw r (omega (arith, front, length-snoc (take 63 h) c)))))
    (λ p. rw p b)))
    (λ e. rw e (omega (arith, length-snoc h c, leb-false 64 (length h) e)))

-- ---- texts that are alike do the same

-- whether texts of digits, of which at least two, are frames
frames-alike : (h w : List ℕ) → 2 ≤ length h → 2 ≤ length w → all_digits h ≡ all_digits w → (all_digits w ≡ true → length h % 2 ≡ length w % 2) → is_frame h ≡ is_frame w
frames-alike h w a b d parity =
    rw (le-leb 2 (length h) a, le-leb 2 (length w) b, d)
    (cases (all_digits w) (λ e. rw (e, parity e))
    (λ e. rw (e, and-false (eqb (length h % 2) 0), and-false (eqb (length w % 2) 0))))

digits-behind : (l : List ℕ) → 0 < length l → all_digits l ≡ (is_digit (get_or l 0 0) && all_digits (drop 1 l))
digits-behind [] h = absurd (omega arith)
digits-behind (x ∷ l) h = refl

module _ {h w : List ℕ} (l : Long h w) where
  behind-long : (length h ≡ suc (length (drop 1 h))) × (length w ≡ suc (length (drop 1 w)))
  behind-long = (omega (arith, length-drop 1 h, l.held), omega (arith, length-drop 1 w, l.line))

  same_digits : all_digits h ≡ all_digits w
  same_digits =
      digits-behind h (omega (arith, l.held)) ∙ rw (l.first, l.digits) (sym (digits-behind w (omega (arith, l.line))))

  same-frame : is_frame h ≡ is_frame w
  same-frame =
      frames-alike h w (omega (arith, l.held)) (omega (arith, l.line)) same_digits
      (λ d. l.parity (both_hold {a = is_digit (get_or w 0 0)} (sym (digits-behind w (omega (arith, l.line))) ∙ d)).1)

  same_sent : is_frame (drop 1 h) ≡ is_frame (drop 1 w)
  same_sent =
      frames-alike (drop 1 h) (drop 1 w) (omega (arith, behind-long, l.held)) (omega (arith, behind-long, l.line)) l.digits
      (λ d. omega (arith, behind-long, l.parity d))

  module _ (tray : Tray) (area : List ℕ) (number : ℕ) where
    sent-same : sent_line tray number (drop 1 h) ≡ sent_line tray number (drop 1 w)
    unfolding sent_line
    sent-same =
        rw same_sent (cases (is_frame (drop 1 w))
        (λ e. rw e (long-sent tray number (octets_of (drop 1 h)) (octets_of (drop 1 w))
        (omega (arith, length-octets (drop 1 h), behind-long, l.held)) (omega (arith, length-octets (drop 1 w), behind-long, l.line))))
        (λ e. rw e))

    other-same : other_step tray number h ≡ other_step tray number w
    unfolding other_step begins_opening plain_step
    other-same =
        rw (
          ne_eqb (length h) 10 (λ e. absurd (omega (arith, l.held))),
          ne_eqb (length w) 10 (λ e. absurd (omega (arith, l.line))),
          ne_eqb (length h) 0 (λ e. absurd (omega (arith, l.held))),
          ne_eqb (length w) 0 (λ e. absurd (omega (arith, l.line))),
          l.first,
        )

    unheard-same : unheard_step tray number h ≡ unheard_step tray number w
    unfolding unheard_step
    unheard-same = rw (sent-same, other-same, l.first)

    long_same : (line_step tray area number h ≡ line_step tray area number w) × (line_area tray area h ≡ line_area tray area w)
    unfolding line_step line_area
    long_same =
        rw same-frame (cases (is_frame w)
        (λ e. rw e (long-frames tray area number (octets_of h) (octets_of w) (omega (arith, length-octets h, l.held)) (omega (arith, length-octets w, l.line))))
        (λ e. rw e (unheard-same, refl)))

pub alike_same : {h w : List ℕ} → Alike h w → (tray : Tray) (area : List ℕ) (number : ℕ)
    → (line_step tray area number h ≡ line_step tray area number w) × (line_area tray area h ≡ line_area tray area w)
alike_same {h} {w} (same e) tray area number = rw e (refl, refl)
alike_same (long l) tray area number = long_same l tray area number

-- ---- a line in two parts

pub held-append : (held a b : List ℕ) → held_from held (a ++ b) ≡ held_from (held_from held a) b
held-append held [] b = refl
held-append held (c ∷ a) b = held-append (held_after held c) a b

some_after : (held : List ℕ) (c : ℕ) → 1 ≤ length held → 1 ≤ length (held_after held c)
unfolding held_after full_after
some_after held c h =
    cases (leb 64 (length held))
    (λ e. let long = leb-true 64 (length held) e in
    let front = length-take-le 63 held (omega arith) in
    rw e (cases (is_digit (get_or held 63 0))
    (λ q. rw q (cases (is_digit c) (λ z. rw z (omega arith)) (λ z. rw z (omega (arith, length-append (take 63 held) (c ∷ []))))))
    (λ q. rw q h)))
    (λ e. rw e (omega (arith, length-append held (c ∷ []))))

some-from : (held line : List ℕ) → 1 ≤ length held → 1 ≤ length (held_from held line)
some-from held [] h = h
some-from held (c ∷ line) h = some-from (held_after held c) line (some_after held c h)

-- what is held has characters where the line has
pub held-some : (line : List ℕ) → ltb 0 (length (held_from [] line)) ≡ ltb 0 (length line)
unfolding held_after
held-some [] = refl
held-some (c ∷ line) =
    rw (lt-ltb 0 (length (held_from (held_after [] c) line)) (omega (arith, some-from (c ∷ []) line (omega arith))), lt-ltb 0 (length (c ∷ line)) (omega arith))
