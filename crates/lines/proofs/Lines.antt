-- The lines found are those of all that was read (`specs/Lines.antt`).
use Prim.Native.Nat.{ℕ, suc, ◌+◌, ◌-◌, ◌≤◌, ◌<◌}
use native.Mathlib.Omega.{arith}
use mathlib.Core.Bool.{Bool, true, false, cond, false≢true}
use mathlib.Core.List.{List, [], ◌∷◌, ◌++◌, append_assoc, append-nil}
use mathlib.Core.Path.{◌≡◌, refl, sym, ap, ◌∙◌, subst}
use lib.Dec.{ltb, eqb}
use lib.ListN.{length, take, drop, take-append-drop, drop_of_length-le, length-append, length-drop}
use lib.Seq.{length-take-le, take_all, take_at, drop-drop}
use borrow.Author.Tests.{eqb-true, ltb-true, ltb-false, lt-ltb, le-leb}
use Rattle.octets.specs.Cut.{joined}
use Rattle.octets.proofs.Tests.{cases}
use Rattle.octets.proofs.Parts.{part-take}
use Rattle.octets.proofs.Cut.{joined-append}
use Rattle.lines.specs.declared.Streams.{Streams}
use Rattle.lines.specs.Streams.{newline_in, newline_from, piece_from, piece_in, next_place, with_waiting, is_left, with_over, Found, is_whole}
use Rattle.lines.specs.Lines.{lines_from, lines_by, ended_from, ended_lines, as_it_stands, Reading, one_if, read_on, Follows, LinesFound, LinesBegun}
use Rattle.lines.specs.Lines.Follows.{begins, goes}
use Rattle.lines.proofs.Laws.{newline-few, left-fits}

-- ---- the first newline of a text

-- the newline itself
newline-at : (t : List ℕ) → newline_in t < length t → drop (newline_in t) t ≡ 10 ∷ drop (suc (newline_in t)) t
newline-at [] h = absurd (omega arith)
newline-at (c ∷ t) h =
    cases (eqb c 10) (λ e. let z : c ≡ 10 = eqb-true c 10 e in rw z)
    (λ e. rw e (newline-at t (omega (arith, (rw e at h)))))

module _ (ended : List ℕ → List ℕ) where
  -- what stands before it is part of the line
  front-held : (held t more : List ℕ) → lines_from ended held (take (newline_in t) t ++ more) ≡ lines_from ended (held ++ take (newline_in t) t) more
  front-held held [] more = rw (append-nil held)
  front-held held (c ∷ t) more =
      cases (eqb c 10) (λ e. rw (e, append-nil held))
      (λ e. rw e (rw e (front-held (held ++ (c ∷ [])) t more ∙ rw (append_assoc held (c ∷ []) (take (newline_in t) t)))))

  module _ (held t more : List ℕ) where
    -- a line that ends
    line-ends : newline_in t < length t
        → lines_from ended held (t ++ more) ≡ ended (held ++ take (newline_in t) t) ∷ lines_from ended [] (drop (suc (newline_in t)) t ++ more)
    line-ends h =
        let n = newline_in t in
        let whole : t ≡ take n t ++ (10 ∷ drop (suc n) t) = sym (rw (newline-at t h) at (take-append-drop n t)) in
        ap (λ (l : List ℕ). lines_from ended held (l ++ more)) whole
        ∙ rw (append_assoc (take n t) (10 ∷ drop (suc n) t) more) (front-held held t (10 ∷ (drop (suc n) t ++ more)))

    -- a line that goes on
    line-goes : length t ≤ newline_in t → lines_from ended held (t ++ more) ≡ lines_from ended (held ++ take (newline_in t) t) more
    line-goes h = ap (λ (l : List ℕ). lines_from ended held (l ++ more)) (sym (take_all (newline_in t) t h)) ∙ front-held held t more

-- ---- the lines that a newline ends

-- what stands behind the last newline
abbrev unfinished : List ℕ → List ℕ → List ℕ
unfinished held [] = held
unfinished held (c ∷ text) = cond (eqb c 10) (unfinished [] text) (unfinished (held ++ (c ∷ [])) text)

-- they come first, whatever comes behind
ended-first : (ended : List ℕ → List ℕ) (held text more : List ℕ)
    → lines_from ended held (text ++ more) ≡ ended_from ended held text ++ lines_from ended (unfinished held text) more
ended-first ended held [] more = refl
ended-first ended held (c ∷ text) more =
    cases (eqb c 10) (λ e. rw e (ap (λ (l : List (List ℕ)). ended held ∷ l) (ended-first ended [] text more)))
    (λ e. rw e (ended-first ended (held ++ (c ∷ [])) text more))

-- lists that are one list with an element behind each
same-front : (a b : List (List ℕ)) (x y : List ℕ) → a ++ (x ∷ []) ≡ b ++ (y ∷ []) → a ≡ b
same-front a b x y e =
    let long = sym (length-append a (x ∷ [])) ∙ ap length e ∙ length-append b (y ∷ []) in
    sym (take_at a (x ∷ []) (length a) refl) ∙ ap (take (length a)) e ∙ take_at b (y ∷ []) (length a) (omega (arith, long))

-- ---- a piece of a buffer

-- what is left in a buffer
abbrev left : Streams → List ℕ → List ℕ
left s input = drop (next_place s) (take s.filled input)

module _ (s : Streams) (input : List ℕ) (from filled : ℕ) (fits : filled ≤ length input) where
  abbrev text : List ℕ
  text = drop from (take filled input)

  abbrev r : Streams
  r = piece_from s input from filled

  text-long : length text ≡ filled - from
  text-long = length-drop from (take filled input) ∙ rw (length-take-le filled input fits)

  ends_at : r.to ≡ from + newline_in text
  unfolding newline_from
  ends_at = refl

  piece_is : from ≤ filled → piece_in r input ≡ take (newline_in text) text
  piece_is some =
      let n = newline_in text in
      let count : r.to - from ≡ n = omega (arith, ends_at) in
      rw count (sym (part-take filled input from n (omega (arith, newline-few text, text-long))))

  module _ (ended : List ℕ → List ℕ) (some : from ≤ filled) (held more : List ℕ) where
    abbrev line : List ℕ
    line = held ++ piece_in r input

    -- the lines from here on, by whether this piece ends one
    pub piece-lines : lines_from ended held (text ++ more)
        ≡ one_if (is_whole r (length line)) (cond r.ends (ended line) line) ++ lines_from ended (cond (is_whole r (length line)) [] line) (left r input ++ more)
    piece-lines =
        let n = newline_in text in
        cases (ltb r.to filled)
        (λ e. let h = ltb-true r.to filled e in
        let place : from + suc n ≡ r.to + 1 = omega (arith, ends_at) in
        let rest : drop (r.to + 1) (take filled input) ≡ drop (suc n) text = sym (rw place at (drop-drop (suc n) from (take filled input))) in
        rw (e, rest, piece_is some) (line-ends ended held text more (omega (arith, ends_at, text-long))))
        (λ e. let h = ltb-false r.to filled e in
        let none : drop r.to (take filled input) ≡ [] = drop_of_length-le (take filled input) {i = r.to} (omega (arith, length-take-le filled input fits)) in
        rw (e, none, piece_is some) (line-goes ended held text more (omega (arith, ends_at, text-long))))

-- ---- the readings

-- before the input's end: the lines of what was read, with anything more behind it, are the whole ones and those from here on
record Goes (ended : List ℕ → List ℕ) (x : Reading) : Type 0 where
  fits : x.streams.filled ≤ length x.input
  none : x.streams.found ≡ false → left x.streams x.input ≡ []
  lines : (more : List ℕ)
      → lines_by ended (joined x.read ++ more) ≡ x.whole ++ lines_from ended x.held (left x.streams x.input ++ more)

record Kept (ended : List ℕ → List ℕ) (x : Reading) : Type 0 where
  found-open : x.streams.found ≡ true → x.streams.over ≡ false
  goes_on : x.streams.over ≡ false → Goes ended x
  ends : x.streams.over ≡ true → x.whole ≡ lines_by ended (joined x.read)

module _ (ended : List ℕ → List ℕ) (x : Reading) (waiting : ℕ) (taken : Bool) (output : List ℕ) (g : Goes ended x) where
  abbrev s : Streams
  s = with_waiting x.streams waiting taken

  -- a piece of what is left
  kept-left : is_left s x.input output ≡ true → Kept ended (read_on ended x s output (piece_from s x.input (next_place s) s.filled) x.input)
  kept-left e =
      let p = left-fits s x.input output e in
      record {
        found-open = λ _. refl;
        goes_on = λ _. record {
          fits = p.0;
          none = λ n. absurd (false≢true (sym n ∙ lt-ltb (next_place s) s.filled p.2));
          lines = λ more.
              rw (e, append-nil x.read)
              (g.lines more
              ∙ ap (λ (l : List (List ℕ)). x.whole ++ l) (piece-lines s x.input (next_place s) s.filled p.0 ended (omega (arith, p.2)) x.held more)
              ∙ sym (append_assoc x.whole _ _));
        };
        ends = λ n. absurd (false≢true n);
      }

  nothing_left : s.waiting ≤ length output → is_left s x.input output ≡ false → left s x.input ≡ []
  nothing_left w e =
      let n = rw (le-leb s.filled (length x.input) g.fits, le-leb s.waiting (length output) w) at e in
      drop_of_length-le (take s.filled x.input) {i = next_place s} (omega (arith, length-take-le s.filled x.input g.fits, ltb-false (next_place s) s.filled n))

  -- what was read
  module _ (q : Streams) (after : List ℕ) (filled : ℕ) (w : s.waiting ≤ length output) (e : is_left s x.input output ≡ false) (fits : filled ≤ length after) where
    abbrev piece : Bool → Streams
    piece over = with_over (piece_from q after 0 filled) over

    all_read : (more : List ℕ) → joined (x.read ++ (take filled after ∷ [])) ++ more ≡ joined x.read ++ (take filled after ++ more)
    all_read more = rw (joined-append x.read (take filled after ∷ []), append-nil (take filled after)) (append_assoc (joined x.read) (take filled after) more)

    -- not at the input's end: the first piece of it
    kept_read : Kept ended (read_on ended x s output (piece false) after)
    kept_read = record {
      found-open = λ _. refl;
      goes_on = λ _. record {
        fits = fits;
        none = λ n. let z : filled ≡ 0 = omega (arith, ltb-false 0 filled n) in
            drop_of_length-le (take filled after) {i = next_place (piece false)} (omega (arith, length-take-le filled after fits));
        lines = λ more.
            rw (e, all_read more)
            ((rw (nothing_left w e) at (g.lines (take filled after ++ more)))
            ∙ ap (λ (l : List (List ℕ)). x.whole ++ l) (piece-lines q after 0 filled fits ended (omega arith) x.held more)
            ∙ sym (append_assoc x.whole _ _));
      };
      ends = λ n. absurd (false≢true n);
    }

    -- at the input's end: a line that has characters is whole
    last_line : filled ≡ 0
        → x.whole
        ++ one_if (is_whole (piece true) (length (x.held ++ piece_in (piece true) after)))
        (cond (piece true).ends (ended (x.held ++ piece_in (piece true) after)) (x.held ++ piece_in (piece true) after))
        ≡ lines_by ended (joined x.read ++ (take filled after ++ []))
    unfolding newline_from
    last_line z =
        rw (z, append-nil x.held)
        (sym ((rw (nothing_left w e) at (g.lines [])) ∙ ap (λ (l : List (List ℕ)). x.whole ++ l) (cases (ltb 0 (length x.held)) (λ y. rw y) (λ y. rw y))))

    kept-over : filled ≡ 0 → Kept ended (read_on ended x s output (piece true) after)
    kept-over z = record {
      found-open = λ y. absurd (omega (arith, ltb-true 0 filled y));
      goes_on = λ n. absurd (false≢true (sym n));
      ends = λ _.
          rw e (last_line z ∙ ap (lines_by ended) (sym (all_read []) ∙ append-nil (joined (x.read ++ (take filled after ∷ [])))));
    }

    kept_by : (over : Bool) → (over ≡ true → filled ≡ 0) → Kept ended (read_on ended x s output (piece over) after)
    kept_by true empty = kept-over (empty refl)
    kept_by false empty = kept_read

-- a call, whatever the program did to the output before
kept_on : (ended : List ℕ → List ℕ) (x : Reading) → Goes ended x → (s : Streams) → s ≡ with_waiting x.streams s.waiting s.taken
    → (output : List ℕ) → s.waiting ≤ length output → (r : Streams) (after : List ℕ) → Found s x.input output r after
    → Kept ended (read_on ended x s output r after)
kept_on ended x g s same output w next after c =
    subst (λ (t : Streams). Found t x.input output next after → Kept ended (read_on ended x t output next after)) (sym same)
    (λ c'. cases (is_left (with_waiting x.streams s.waiting s.taken) x.input output)
    (λ e. let p = c'.left e in
    subst (λ (z : Streams × List ℕ). Kept ended (read_on ended x (with_waiting x.streams s.waiting s.taken) output z.0 z.1)) (λ i. (sym p.0 i, sym p.1 i))
    (kept-left ended x s.waiting s.taken output g e))
    (λ e. let p = c'.read e in
    subst (λ (z : Streams). Kept ended (read_on ended x (with_waiting x.streams s.waiting s.taken) output z after)) (sym p.first)
    (kept_by ended x s.waiting s.taken output g (with_waiting x.streams 0 next.taken) after next.filled w e p.fits next.over p.over-empty)))
    c

module _ (ended : List ℕ → List ℕ) (input : List ℕ) where
  keeps : (x : Reading) → Follows ended input x → Kept ended x
  keeps x begins = record {
    found-open = λ _. refl;
    goes_on = λ _. record { fits = omega arith; none = λ n. absurd (false≢true (sym n)); lines = λ more. refl };
    ends = λ n. absurd (false≢true n);
  }
  keeps x (goes {x = y} f found t same output w next after c) =
      let k = keeps y f in
      kept_on ended y (k.goes_on (k.found-open found)) t same output w next after c

pub lines-found : LinesFound
lines-found ended input x f over = (keeps ended input x f).ends over

pub lines-begun : LinesBegun
lines-begun ended input x f n =
    let g = (keeps ended input x f).goes_on n in
    let text = joined x.read in
    record {
      lines = λ e.
          same-front x.whole (ended_lines ended text) (ended x.held) (ended (unfinished [] text))
          (sym (rw (g.none e) at (g.lines (10 ∷ []))) ∙ ended-first ended [] text (10 ∷ []));
      front = λ more. (_, g.lines more);
    }

-- a line that stays what it is, whatever ended it
pub line-stands : (ends : Bool) (text : List ℕ) → cond ends (as_it_stands text) text ≡ text
line-stands true _ = refl
line-stands false _ = refl

-- a program's next call is of the reading so far, where its streams are those of the reading but for what waits
pub reads_on : {ended : List ℕ → List ℕ} {input : List ℕ} {x : Reading} → Follows ended input x → (s : Streams)
    → s ≡ with_waiting x.streams s.waiting s.taken → s.found ≡ true
    → (i : List ℕ) → i ≡ x.input → (output : List ℕ) → s.waiting ≤ length output → (r : Streams) (after : List ℕ) → Found s i output r after
    → Follows ended input (read_on ended x s output r after)
reads_on f s same found i e output w next after c =
    goes f (sym (ap (λ (t : Streams). t.found) same) ∙ found) s same output w next after (rw e at c)
