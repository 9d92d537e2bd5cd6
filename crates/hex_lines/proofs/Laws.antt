-- The length of a line's text, and what the reading of a line tells.
use Prim.Native.Nat.{ℕ, zero, suc, ◌+◌, ◌*◌, ◌/◌, ◌%◌, ◌≤◌, min}
use native.Mathlib.Nat.{zero-add}
use native.Mathlib.Numerals.{add-one}
use native.Mathlib.Omega.{arith}
use mathlib.Core.Bool.{true, false}
use mathlib.Core.List.{List, [], ◌∷◌, ◌++◌, map-map}
use mathlib.Core.Path.{◌≡◌, refl, sym, ap, ◌∙◌}
use lib.Dec.{leb, eqb}
use lib.ListN.{length, take, set, replicate, length-append}
use borrow.Author.Tests.{leb-true, leb-false, eqb-true, le-leb, lt-leb}
use Rattle.octets.specs.Parts.{write}
use Rattle.octets.specs.Cut.{up_to, joined}
use Rattle.octets.specs.Writing.{told as writer_told, written, output_after}
use Rattle.octets.proofs.Parts.{write-octet, write-next, write-front}
use Rattle.octets.proofs.Cut.{joined-up-to}
use Rattle.octets.proofs.Tests.{cases, both_hold, holds-both}
use Rattle.octets.proofs.Writing.{written-fits, wrote}
use Rattle.hexadecimal.specs.Hex.{is_hexadecimal, octets_of, text_of, decoded_of, decoded_output, encoded_output}
use Rattle.hexadecimal.proofs.Laws.{length-text, length-octets, encoded-fits}
use Rattle.transactions.specs.Segments.{seg_n, segment_place}
use Rattle.pb_adv_writing.specs.Writing.{segment_frame, header_of, is_segment, SegmentAsked}
use Rattle.transactions.specs.declared.TransactionNumber.{TransactionNumber}
use Rattle.transactions.proofs.Laws.{seg_n-enough, segment-begins}
use Rattle.pb_adv_writing.proofs.Laws.{frame-long}
use Rattle.hex_lines.specs.Lines.{is_message, frame_line, message_text}
use Rattle.hex_lines.specs.Steps.{segment_line, first_lines}
use Rattle.std.specs.Prelude.{Ok, Err}
use Rattle.octets.specs.Writing.{wrong_argument}

-- ---- a line at its place

frame-line-long : (f : List ℕ) → length (frame_line f) ≡ 2 * length f + 1
frame-line-long f = omega (arith, length-append (text_of f) (10 ∷ []), length-text f)

-- a frame's digits and the newline behind them
pub line-put : (f output : List ℕ) (at : ℕ) → at + length (frame_line f) ≤ length output
    → set (encoded_output f output at) (at + 2 * length f) 10 ≡ write output at (frame_line f)
line-put f output at fits =
    let long = frame-line-long f in
    rw (encoded-fits f output at (omega arith), ← (length-text f)) (write-octet output at (text_of f) 10 (omega (arith, length-text f)))

-- ---- the lines of a message

module _ (t : TransactionNumber) (m : List ℕ) where
  pub line-long : (k : ℕ) → length (segment_line t m k) ≡ 2 * length (segment_frame 1 t m k) + 1
  unfolding segment_line
  line-long k = frame-line-long (segment_frame 1 t m k)

  pub no_lines : first_lines t m 0 ≡ []
  unfolding first_lines up_to
  no_lines = refl

  -- one line more
  next-line : (k : ℕ) → first_lines t m (suc k) ≡ first_lines t m k ++ segment_line t m k
  unfolding first_lines
  next-line k = joined-up-to (segment_line t m) k

  -- the lines of all segments are the message's text
  pub all_lines : first_lines t m (suc (seg_n (length m))) ≡ message_text t m
  unfolding first_lines segment_line message_text
  all_lines = ap joined (sym (map-map frame_line (segment_frame 1 t m) (up_to (suc (seg_n (length m))))))

  -- a turn of the loop that writes them
  pub lines-turn : (first output : List ℕ) (at k : ℕ) → at ≡ length (first_lines t m k) → output ≡ write first 0 (first_lines t m k) → at ≤ length first
      → (at + length (segment_line t m k) ≡ length (first_lines t m (k + 1))) × (write output at (segment_line t m k) ≡ write first 0 (first_lines t m (k + 1)))
  lines-turn first output at k e q fits =
      let here : at ≡ 0 + length (first_lines t m k) = omega arith in
      rw (add-one k, next-line k)
      (omega (arith, length-append (first_lines t m k) (segment_line t m k)), rw (q, here) (write-next first 0 (first_lines t m k) (segment_line t m k) (omega arith)))

  next-long : (k : ℕ) → length (first_lines t m (suc k)) ≡ length (first_lines t m k) + 2 * length (segment_frame 1 t m k) + 1
  next-long k = ap length (next-line k) ∙ omega (arith, length-append (first_lines t m k) (segment_line t m k), line-long k)

  module _ (some : 1 ≤ length m) where
    -- the lines of the first segments: 9 octets stand before segment 0, 6 before each other one
    pub lines_long : (k : ℕ) → k ≤ seg_n (length m) → length (first_lines t m (suc k)) ≡ 2 * (min (segment_place (suc k)) (length m) + 9 + 6 * k) + suc k
    unfolding header_of
    lines_long zero h = next-long 0 ∙ omega (arith, ap length no_lines, frame-long 1 t m 0)
    lines_long (suc k) h =
        next-long (suc k) ∙ omega (arith, lines_long k (omega arith), frame-long 1 t m (suc k), segment-begins (length m) (suc k) some h)

    pub text-long : length (message_text t m) ≡ 2 * (length m + 9 + 6 * seg_n (length m)) + seg_n (length m) + 1
    text-long = ap length (sym all_lines) ∙ omega (arith, lines_long (seg_n (length m)) (omega arith), seg_n-enough (length m))

    -- no line ends past the end of the text
    pub lines-within : (k : ℕ) → k ≤ seg_n (length m) → length (first_lines t m k) + length (segment_line t m k) ≤ length (message_text t m)
    lines-within k h =
        omega (arith, length-append (first_lines t m k) (segment_line t m k), ap length (next-line k), lines_long k h, text-long)

-- ---- the frame of a segment, written to 29 octets

pub frame_small : (t : TransactionNumber) (m : List ℕ) (k : ℕ) → length (segment_frame 1 t m k) ≤ 29
unfolding header_of
frame_small t m zero = omega (arith, frame-long 1 t m 0)
frame_small t m (suc k) = omega (arith, frame-long 1 t m (suc k))

abbrev frame_room : List ℕ
frame_room = replicate 29 0

module _ (t : TransactionNumber) {m : List ℕ} {k : ℕ} (asked : SegmentAsked m k) where
  right : is_segment m k ≡ true
  right = holds-both (holds-both (le-leb 1 (length m) asked.some-octets) (le-leb (length m) 1469 asked.few-octets)) (le-leb k (seg_n (length m)) asked.index)

  frame-written : written (is_segment m k) (segment_frame 1 t m k) frame_room ≡ Ok (length (segment_frame 1 t m k))
  frame-written = rw right (written-fits (segment_frame 1 t m k) frame_room (frame_small t m k))

  pub frame-some : written (is_segment m k) (segment_frame 1 t m k) frame_room ≡ Err wrong_argument → ⊥
  frame-some e = let z : ◌≡◌ {A = ℕ} 0 1 = cc frame-written in omega arith

  pub frame-count : {n : ℕ} → written (is_segment m k) (segment_frame 1 t m k) frame_room ≡ Ok n → n ≡ length (segment_frame 1 t m k)
  frame-count e = cc frame-written

  pub frame-front : take (length (segment_frame 1 t m k)) (output_after (is_segment m k) (segment_frame 1 t m k) frame_room) ≡ segment_frame 1 t m k
  frame-front = (wrote (is_segment m k) (segment_frame 1 t m k) frame_room (length (segment_frame 1 t m k)) (ap writer_told frame-written)).1

-- ---- what a reading into 1,469 octets tells

abbrev message_room : List ℕ
message_room = replicate 1469 0

module _ (line : List ℕ) where
  -- anything but octets: the line is no message
  pub read_none : ((n : ℕ) → decoded_of line message_room ≡ Ok n → ⊥) → is_message line ≡ false
  unfolding decoded_of
  read_none h =
      cases (is_hexadecimal line)
      (λ p. cases (leb (length line / 2) 1469) (λ q. absurd (h (length line / 2) (rw (p, q))))
      (λ q. let b = leb-false (length line / 2) 1469 q in
      rw (p, le-leb 2 (length line) (omega arith), lt-leb (length line) 2938 (omega arith))))
      (λ p. rw p)

  module _ {n : ℕ} (e : decoded_of line message_room ≡ Ok n) where
    read-octets : (is_hexadecimal line ≡ true) × (n ≡ length line / 2) × (n ≤ 1469)
    unfolding decoded_of
    read-octets =
        cases (is_hexadecimal line)
        (λ p. cases (leb (length line / 2) 1469)
        (λ q. let r : Ok n ≡ Ok (length line / 2) = sym (rw (p, q) at e) in
        let k : n ≡ length line / 2 = cc in
        (p, k, omega (arith, leb-true (length line / 2) 1469 q)))
        (λ q. let z : ◌≡◌ {A = ℕ} 0 1 = cc (rw (p, q) at e) in absurd (omega arith)))
        (λ p. let z : ◌≡◌ {A = ℕ} 0 1 = cc (rw p at e) in absurd (omega arith))

    -- no octet: it is none either
    pub read-nothing : n ≡ 0 → is_message line ≡ false
    read-nothing z =
        let r = read-octets in
        rw (r.0, lt-leb 2 (length line) (omega arith))

    -- some: it is the message that they are
    pub read-message : 1 ≤ n → is_message line ≡ true
    read-message some =
        let r = read-octets in
        let even = eqb-true (length line % 2) 0 (both_hold {a = eqb (length line % 2) 0} r.0).0 in
        rw (r.0, le-leb 2 (length line) (omega arith), le-leb (length line) 2938 (omega arith))

    pub read_count : (n ≡ length (octets_of line)) × (n ≤ 1469)
    read_count = (read-octets.1 ∙ sym (length-octets line), read-octets.2)

    pub read-front : take n (decoded_output line message_room) ≡ octets_of line
    unfolding decoded_output
    read-front =
        let r = read-octets in
        rw (r.0, le-leb (length line / 2) 1469 (omega arith), read_count.0)
        (rw zero-add at (write-front message_room 0 (octets_of line) (omega (arith, read_count))))
