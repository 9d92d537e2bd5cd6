-- The laws of pieces of input, and of text that waits.
use Prim.Native.Nat.{ℕ, suc, ◌+◌, ◌-◌, ◌≤◌, ◌<◌}
use native.Mathlib.Omega.{arith}
use mathlib.Core.Bool.{Bool, true, false, false≢true, and-eq-true_iff}
use mathlib.Core.List.{List, [], ◌∷◌, ◌++◌, append_assoc, append-nil}
use mathlib.Core.Path.{◌≡◌, refl, sym, ap, ◌∙◌, subst}
use lib.Dec.{leb, eqb}
use Rattle.std.specs.Prelude.{Option, Some, None, ◌==◌, position}
use Rattle.std.specs.List.{position_or_len}
use Rattle.std.proofs.lemmas.Grind.{common_steps}
use Rattle.std.proofs.lemmas.List.Quantifiers.{position-Some}
use lib.ListN.{length, take, drop}
use borrow.Author.Tests.{le-leb, eqb-true, leb-true, ltb-true}
use Rattle.octets.proofs.Tests.{cases, both_hold}
use Rattle.octets.specs.Parts.{part, write}
use Rattle.octets.proofs.Parts.{part_length, part-front, write-length, write-front, write-longer, write-behind}
use Rattle.lines.specs.declared.Streams.{Streams}
use Rattle.lines.specs.Streams.{newline_in, newline_from, piece_from, next_place, Within, with_waiting, Flushed, has_room, RoomMade, waiting_after, TextWaits, EndWaits, is_left, with_over, is_end, count_read, piece_read, Read, Found}

-- ---- the place of the first newline

-- as std finds it
in_text : (text : List ℕ) → newline_in text ≡ position_or_len (λ c. c == 10) text
in_text [] = refl
in_text (c ∷ text) = cases (eqb c 10) (λ e. rw e refl) (λ e. rw e (ap suc (in_text text) ∙ omega arith))

pub newline-few : (text : List ℕ) → newline_in text ≤ length text
newline-few [] = omega arith
newline-few (c ∷ text) = cases (eqb c 10) (λ e. rw e (omega arith)) (λ e. rw e (omega (arith, newline-few text)))

module _ (input : List ℕ) (from filled : ℕ) (few : from ≤ filled) (fits : filled ≤ length input) where
  abbrev text : List ℕ
  text = part input from (filled - from)

  text-long : length text ≡ filled - from
  text-long = part_length input from (filled - from) (omega arith)

  text-is : drop from (take filled input) ≡ text
  text-is =
      let e : filled ≡ from + (filled - from) = omega arith in
      ap (λ (n : ℕ). drop from (take n input)) e ∙ sym (part-front input from (filled - from))

  -- it is here
  pub newline-at : (count : ℕ) → position (λ c. c == 10) text ≡ Some count → (newline_from input from filled ≡ from + count) × (from + count ≤ filled)
  unfolding newline_from
  newline-at count e =
      let p = position-Some (λ c. c == 10) text count 0 e in
      let at : position_or_len (λ c. c == 10) text ≡ count = grind (arith, common_steps) in
      (ap (λ (t : List ℕ). from + newline_in t) text-is ∙ ap (λ (n : ℕ). from + n) (in_text text ∙ at), omega (arith, text-long, p.0))

  -- there is none
  pub newline-none : position (λ c. c == 10) text ≡ None → newline_from input from filled ≡ filled
  unfolding newline_from
  newline-none e =
      let past : length text ≤ position_or_len (λ c. c == 10) text = grind (arith, common_steps) in
      ap (λ (t : List ℕ). from + newline_in t) text-is ∙ omega (arith, few, past, in_text text, newline-few text, text-long)

-- ---- pieces

pub piece-within : (s r : Streams) (input output : List ℕ) (from filled : ℕ) → r ≡ piece_from s input from filled
    → from ≤ r.to → r.to ≤ filled → filled ≤ length input → s.waiting ≤ length output → Within r input output
piece-within s r input output from filled e some few fits waits = record {
  piece = rw (ap (λ (x : Streams). x.from) e) some;
  input-fits = omega arith;
  output-fits = rw (ap (λ (x : Streams). x.waiting) e) waits;
}

-- the first piece of what was read
pub read-piece : (s f r : Streams) (output after : List ℕ) (filled : ℕ) (over : Bool) → Flushed s output f → filled ≤ length after
    → (f.taken ≡ false → (filled ≡ 0) × (over ≡ false)) → (over ≡ true → filled ≡ 0) → r ≡ with_over (piece_from f after 0 filled) over
    → Read s output r after
read-piece s f r output after filled over x few none empty e =
    subst (λ (r : Streams). Read s output r after) (sym e) record {
      first = λ i. record {
        from = 0;
        to = newline_from after 0 filled;
        ends = (piece_from f after 0 filled).ends;
        filled = filled;
        found = (piece_from f after 0 filled).found;
        over = over;
        waiting = (x.emptied i).waiting;
        taken = f.taken;
      };
      fits = few;
      untaken = x.untaken;
      past = x.past;
      unread = λ n. (none n).0;
      untaken-open = λ n. (none n).1;
      over-empty = empty;
    }

-- the system's answer counts no more than there is room for, and nothing at the input's end
pub answer-fits : (got : Option ℕ) (room : ℕ) → count_read got room ≤ room
answer-fits got room = omega arith

end_empty : (got : Option ℕ) (room : ℕ) → is_end got ≡ true → count_read got room ≡ 0
end_empty (Some count) room e = omega (arith, eqb-true count 0 e)
end_empty None room e = absurd (false≢true e)

pub read-answered : (s f r : Streams) (output after : List ℕ) (got : Option ℕ) → Flushed s output f → f.taken ≡ true → r ≡ piece_read f got after → Read s output r after
read-answered s f r output after got x taken e =
    read-piece s f r output after (count_read got (length after)) (is_end got) x (answer-fits got (length after)) (λ n. absurd (false≢true (sym n ∙ taken)))
    (end_empty got (length after)) e

-- ---- the next piece

module _ (s : Streams) (input output : List ℕ) where
  pub left-fits : is_left s input output ≡ true → (s.filled ≤ length input) × (s.waiting ≤ length output) × (next_place s < s.filled)
  left-fits e =
      let p = (and-eq-true_iff _ _).0 e in
      let q = (and-eq-true_iff _ _).0 p.1 in
      (leb-true _ _ p.0, leb-true _ _ q.0, ltb-true _ _ q.1)

  pub found_left : (r : Streams) → is_left s input output ≡ true → r ≡ piece_from s input (next_place s) s.filled → Found s input output r input
  found_left r e x = record { left = λ _. (x, refl); read = λ n. absurd (false≢true (sym n ∙ e)) }

  pub found-read : (r : Streams) (after : List ℕ) → is_left s input output ≡ false → Read s output r after → Found s input output r after
  found-read r after e x = record { left = λ y. absurd (false≢true (sym e ∙ y)); read = λ _. x }

-- ---- room

module _ (s : Streams) (output : List ℕ) (room : ℕ) where
  pub room-enough : has_room s output room ≡ true → RoomMade s output room s
  room-enough e = record { enough = λ _. refl; less = λ n. absurd (false≢true (sym n ∙ e)) }

  pub room-less : (r : Streams) → has_room s output room ≡ false → Flushed s output r → RoomMade s output room r
  room-less r e x = record { enough = λ y. absurd (false≢true (sym e ∙ y)); less = λ _. x }

-- ---- a text that waits

pub waits-too : (waiting : ℕ) (output : List ℕ) (count : ℕ) → waiting + count ≤ length output → waiting_after waiting output count ≡ waiting + count
unfolding waiting_after
waits-too waiting output count h = rw (le-leb waiting (length output) (omega arith), le-leb count (length output - waiting) (omega arith))

-- what lies behind what waits
abbrev pub behind : List ℕ → ℕ → List ℕ
behind output at = part output at (length output - at)

pub behind-long : (output : List ℕ) (at : ℕ) → at ≤ length output → length (behind output at) ≡ length output - at
behind-long output at h = part_length output at (length output - at) (omega arith)

-- a text at its start, back in its place, and so much more text waiting
module _ (s before r : Streams) (output : List ℕ) (room : ℕ) (text : List ℕ) where
  abbrev pub put_back : List ℕ
  put_back =
      take before.waiting output
      ++ (write (behind output before.waiting) 0 text ++ drop (length output - before.waiting) (drop before.waiting output))

  pub text-waits : RoomMade s output room before → before.waiting + length text ≤ length output
      → r ≡ with_waiting before (waiting_after before.waiting put_back (length text)) before.taken → TextWaits s output room text r put_back
  text-waits made fits e =
      let put : put_back ≡ write output before.waiting text = write-behind output before.waiting text fits in
      let long : length put_back ≡ length output = ap length put ∙ write-length output before.waiting text fits in
      record {
        before = before;
        made = made;
        put = put;
        waits = e ∙ ap (λ (k : ℕ). with_waiting before k before.taken) (waits-too before.waiting put_back (length text) (omega arith));
      }

-- ---- what the calls leave of the streams

-- what waits stays within the output
pub found-waiting : (s r : Streams) (input output after : List ℕ) → Found s input output r after → s.waiting ≤ length output → r.waiting ≤ length output
found-waiting s r input output after f h =
    cases (is_left s input output)
    (λ e. rw (ap (λ (x : Streams). x.waiting) (f.left e).0) h)
    (λ e. let none = ap (λ (x : Streams). x.waiting) (f.read e).first in omega arith)

module _ (s : Streams) (output : List ℕ) (room : ℕ) where
  -- making room changes nothing but what waits
  room-same : (r : Streams) → RoomMade s output room r → r ≡ with_waiting s r.waiting r.taken
  room-same r made =
      cases (has_room s output room) (λ e. subst (λ (x : Streams). x ≡ with_waiting s x.waiting x.taken) (sym (made.enough e)) refl)
      (λ e. subst (λ (x : Streams). x ≡ with_waiting s x.waiting x.taken) (sym (made.less e).emptied) refl)

  room-left : (r : Streams) → RoomMade s output room r → room ≤ length output → r.waiting + room ≤ length output
  room-left r made h =
      cases (has_room s output room)
      (λ e. let p = both_hold {a = leb s.waiting (length output)} e in
      let fits = leb-true s.waiting (length output) p.0 in
      let enough = leb-true room (length output - s.waiting) p.1 in
      rw (ap (λ (x : Streams). x.waiting) (made.enough e)) (omega arith))
      (λ e. let none = ap (λ (x : Streams). x.waiting) (made.less e).emptied in omega arith)

  module _ (text : List ℕ) (r : Streams) (after : List ℕ) (t : TextWaits s output room text r after) where
    -- nor does a text that waits
    pub text_same : r ≡ with_waiting s r.waiting r.taken
    text_same =
        let b = t.before in
        subst (λ (x : Streams). x ≡ with_waiting s x.waiting x.taken) (sym t.waits)
        (ap (λ (x : Streams). with_waiting x (b.waiting + length text) b.taken) (room-same b t.made))

    pub text-within : room ≤ length output → (length output ≤ length after) × (r.waiting ≤ length after)
    text-within h =
        let fits = room-left t.before t.made h in
        let more = ap (λ (x : Streams). x.waiting) t.waits in
        let long = write-longer output t.before.waiting text (omega arith) in
        let put = ap length t.put in
        (omega arith, omega arith)

-- ---- what waits is the end of all text put

module _ {text : List ℕ} {s : Streams} {output : List ℕ} (w : EndWaits text s output) where
  end_same : (r : Streams) → r.waiting ≡ s.waiting → EndWaits text r output
  end_same r e = record { before = w.before; all = rw e w.all; fits = rw e w.fits }

  end_none : (r : Streams) → r.waiting ≡ 0 → EndWaits text r output
  end_none r e = record { before = text; all = rw e (sym (append-nil text)); fits = omega arith }

  -- after a piece found
  pub end-found : (input : List ℕ) (r : Streams) (after : List ℕ) → Found s input output r after → EndWaits text r output
  end-found input r after f =
      cases (is_left s input output) (λ e. end_same r (ap (λ (x : Streams). x.waiting) (f.left e).0))
      (λ e. end_none r (ap (λ (x : Streams). x.waiting) (f.read e).first))

  end-room : (room : ℕ) (r : Streams) → RoomMade s output room r → EndWaits text r output
  end-room room r made =
      cases (has_room s output room) (λ e. end_same r (ap (λ (x : Streams). x.waiting) (made.enough e)))
      (λ e. end_none r (ap (λ (x : Streams). x.waiting) (made.less e).emptied))

  -- with a text more
  pub end_more : (room : ℕ) (more : List ℕ) (r : Streams) (after : List ℕ) → room ≤ length output → length more ≤ room
      → TextWaits s output room more r after → EndWaits (text ++ more) r after
  end_more room more r after h short t =
      let b = t.before in
      let v = end-room room b t.made in
      let fits = room-left s output room b t.made h in
      let front = write-front output b.waiting more (omega arith) in
      record {
        before = v.before;
        all = rw (ap (λ (x : Streams). x.waiting) t.waits, t.put, front)
            (ap (λ (l : List ℕ). l ++ more) v.all ∙ append_assoc v.before (take b.waiting output) more);
        fits = (text-within s output room more r after t h).1;
      }
