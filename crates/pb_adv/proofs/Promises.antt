-- The promises of `specs/Promises.antt`.
use Prim.Native.Nat.{ℕ, ◌+◌, ◌*◌, ◌-◌, ◌/◌, ◌%◌, ◌≤◌, ◌<◌, min}
use Rattle.pb_adv.specs.declared.Frame.{Frame}
use Rattle.pb_adv.specs.declared.FrameRefusal.{FrameRefusal}
use Rattle.std.specs.Prelude.{Result, Ok, Err}
use native.Mathlib.Omega.{arith}
use mathlib.Core.Bool.{true, ◌&&◌}
use mathlib.Core.List.{List, [], ◌∷◌}
use mathlib.Core.Path.{◌≡◌, refl, sym, ap, ◌∙◌, subst}
use lib.Dec.{leb, eqb}
use lib.ListN.{length, take, get_or}
use lib.Seq.{take-length, take_all}
use borrow.Author.Tests.{le-leb, eq-eqb, leb-true, eqb-true}
use Rattle.octets.specs.Numbers.{Octets, big16, big32}
use Rattle.octets.proofs.Tests.{cases, both_hold}
use Rattle.transactions.specs.Segments.{seg_n}
use Rattle.pb_adv.specs.Frame.{parsed, by_kind, is_start, carried, high_bits, segment_from, control_of, frame_octets, segment_octets, open_octets, ack_octets, close_octets}
use Rattle.pb_adv.specs.Promises.{segment_said, Fits, IsEncoding, SegmentsAreEncodings, ControlNumbers}
use Rattle.transactions.specs.declared.TransactionNumber.{TransactionNumber}
use Rattle.pb_adv.specs.declared.SegmentHeader.{SegmentHeader}
use Rattle.pb_adv.specs.declared.SegmentHeader.TheVariants.{Start, Continuation}
use Rattle.pb_adv.specs.declared.Frame.TheVariants as P
use Rattle.pb_adv.proofs.Laws.{start_fits_lem}

-- ---- parsing what was encoded

pub id-back : (i : ℕ) → (i / 16777216 * 256 + i / 65536 % 256) * 65536 + (i / 256 % 256 * 256 + i % 256) ≡ i
id-back i = omega arith

-- a frame of at most 29 octets is judged by its kind
pub by-kind : (id t x : ℕ) (r : List ℕ) → length r ≤ 23 → parsed (frame_octets id t x r) ≡ by_kind (frame_octets id t x r)
unfolding parsed
by-kind id t x r h =
    rw (le-leb 6 (length (frame_octets id t x r)) (omega arith), le-leb (length (frame_octets id t x r)) 29 (omega arith))

pub parsed-segment : (id : ℕ) (t : TransactionNumber) (h : SegmentHeader) (d : List ℕ) → Fits h (length d) → parsed (segment_octets id t h d) ≡ segment_said id t h (length d)
unfolding segment_octets is_start
parsed-segment id t (Start n c) d v =
    let f = frame_octets id t.0 (4 * seg_n n) (n / 256 ∷ n % 256 ∷ c ∷ d) in
    let en : n / 256 * 256 + n % 256 ≡ n = omega arith in
    let ec : length f - 9 ≡ length d = omega arith in
    by-kind id t.0 (4 * seg_n n) (n / 256 ∷ n % 256 ∷ c ∷ d) (omega (arith, v.2))
    ∙ rw (en, id-back id, ec, eq-eqb (4 * seg_n n % 4) 0 (omega arith), le-leb 1 n v.0, le-leb n 1469 v.1, eq-eqb (4 * seg_n n / 4) (seg_n n) (omega arith), eq-eqb (length f) (9 + min 20 n) (omega (arith, v.2)))
parsed-segment id t (Continuation k) d v =
    let f = frame_octets id t.0 (4 * k + 2) d in
    let ek : (4 * k + 2) / 4 ≡ k = omega arith in
    let ex : (4 * k + 2) % 4 ≡ 2 = omega arith in
    let ec : length f - 6 ≡ length d = omega arith in
    by-kind id t.0 (4 * k + 2) d (omega (arith, v.3))
    ∙ rw (ex, ek, id-back id, ec, le-leb 1 k v.0, le-leb 7 (length f) (omega (arith, v.2)))

-- a segment's octets stand behind its header
pub carried-segment : (id : ℕ) (t : TransactionNumber) (h : SegmentHeader) (d : List ℕ) → carried (segment_octets id t h d) (segment_said id t h (length d)) ≡ d
unfolding segment_octets
carried-segment id t (Start n c) d = take-length d
carried-segment id t (Continuation k) d = take-length d

-- ---- what parses as a segment

-- a frame that parses as a segment is its encoding; nothing is said of the others
abbrev pub Said : List ℕ → Result Frame FrameRefusal → Type 0
Said f (Ok (P.Segment s)) = IsEncoding f s
Said f (Ok (P.Acknowledgement id t)) = Unit {0}
Said f (Ok (P.Open id uuid)) = Unit {0}
Said f (Ok (P.Ack id)) = Unit {0}
Said f (Ok (P.Close id reason)) = Unit {0}
Said f (Err r) = Unit {0}

-- a frame of six octets and more, by its first octets
module _ (a b c d t x : ℕ) (hb : b < 256) (hc : c < 256) (hd : d < 256) where
  abbrev frame : List ℕ → List ℕ
  frame r = a ∷ b ∷ c ∷ d ∷ t ∷ x ∷ r

  -- the six octets are those of an encoding
  head-is : (r : List ℕ) (y : ℕ) {rest : List ℕ} → x ≡ y → r ≡ rest → frame r ≡ frame_octets (big32 (frame r) 0) t y rest
  head-is r y ey er =
      let ea : a ≡ big32 (frame r) 0 / 16777216 = omega arith in
      let eb : b ≡ big32 (frame r) 0 / 65536 % 256 = omega arith in
      let ec : c ≡ big32 (frame r) 0 / 256 % 256 = omega arith in
      let ed : d ≡ big32 (frame r) 0 % 256 = omega arith in
      λ i. ea i ∷ eb i ∷ ec i ∷ ed i ∷ t ∷ ey i ∷ er i

  start-said : (r : List ℕ) → get_or r 1 0 < 256 → is_start (frame r) ≡ true → x % 4 ≡ 0 → Said (frame r) (segment_from (frame r) (Start (big16 (frame r) 6) (get_or (frame r) 8 0)) 9)
  unfolding segment_octets
  start-said [] o e k = absurd (omega (arith, (start_fits_lem (frame []) e).long))
  start-said (y ∷ []) o e k = absurd (omega (arith, (start_fits_lem (frame (y ∷ [])) e).long, (start_fits_lem (frame (y ∷ [])) e).some-octets))
  start-said (y ∷ z ∷ []) o e k = absurd (omega (arith, (start_fits_lem (frame (y ∷ z ∷ [])) e).long, (start_fits_lem (frame (y ∷ z ∷ [])) e).some-octets))
  start-said (y ∷ z ∷ w ∷ r) o e k =
      let f = frame (y ∷ z ∷ w ∷ r) in
      let n = y * 256 + z in
      let s = start_fits_lem f e in
      let ex : x ≡ 4 * seg_n n = omega (arith, s.last) in
      let ey : y ≡ n / 256 = omega arith in
      let ez : z ≡ n % 256 = omega arith in
      let ec : length f - 9 ≡ length r = omega arith in
      let er : r ≡ take (length f - 9) r = sym (take_all (length f - 9) r (omega arith)) in
      record {
        encoded = head-is (y ∷ z ∷ w ∷ r) (4 * seg_n n) ex (λ i. ey i ∷ ez i ∷ w ∷ er i);
        long = sym (ap length er) ∙ sym ec;
        fits = (s.some-octets, s.few-octets, omega (arith, s.long));
      }

  continuation-said : (r : List ℕ) → x % 4 ≡ 2 → x < 256 → 1 ≤ x / 4 → 1 ≤ length r → length r ≤ 23 → Said (frame r) (segment_from (frame r) (Continuation (x / 4)) 6)
  unfolding segment_octets
  continuation-said r k hx some more short =
      let ec : length (frame r) - 6 ≡ length r = omega arith in
      let er : r ≡ take (length (frame r) - 6) r = sym (take_all (length (frame r) - 6) r (omega arith)) in
      record {
        encoded = head-is r (4 * (x / 4) + 2) (omega arith) er;
        long = sym (ap length er) ∙ sym ec;
        fits = (some, omega arith, omega arith, omega arith);
      }

said-control : (f : List ℕ) → Said f (control_of f)
unfolding control_of
said-control f =
    cases (eqb (high_bits f) 0) (λ e. rw e (cases (eqb (length f) 22) (λ g. rw g tt) (λ g. rw g tt))) (λ e. rw e
    (cases (eqb (high_bits f) 1) (λ e. rw e (cases (eqb (length f) 6) (λ g. rw g tt) (λ g. rw g tt))) (λ e. rw e
    (cases (eqb (high_bits f) 2) (λ e. rw e (cases (eqb (length f) 7) (λ g. rw g tt) (λ g. rw g tt))) (λ e. rw e tt)))))

said : (f : List ℕ) → Octets f → Said f (parsed f)
unfolding parsed
said [] o = tt
said (a ∷ []) o = tt
said (a ∷ b ∷ []) o = tt
said (a ∷ b ∷ c ∷ []) o = tt
said (a ∷ b ∷ c ∷ d ∷ []) o = tt
said (a ∷ b ∷ c ∷ d ∷ t ∷ []) o = tt
said (a ∷ b ∷ c ∷ d ∷ t ∷ x ∷ r) o =
    let f = a ∷ b ∷ c ∷ d ∷ t ∷ x ∷ r in
    cases (leb 6 (length f) && leb (length f) 29)
    (λ e. let short : length r ≤ 23 = omega (arith, leb-true (length f) 29 (both_hold {a = leb 6 (length f)} {b = leb (length f) 29} e).1) in
    rw e (cases (eqb (x % 4) 0)
    (λ k. rw k (cases (is_start f) (λ g. rw g (start-said a b c d t x (o 1) (o 2) (o 3) r (o 7) g (eqb-true (x % 4) 0 k))) (λ g. rw g tt)))
    (λ k. rw k (cases (eqb (x % 4) 1)
    (λ k. rw k (cases (eqb (x / 4) 0 && eqb (length f) 6) (λ g. rw g tt) (λ g. rw g tt)))
    (λ k. rw k (cases (eqb (x % 4) 2)
    (λ k. rw k (cases (leb 1 (x / 4) && leb 7 (length f))
    (λ g. let w = both_hold {a = leb 1 (x / 4)} {b = leb 7 (length f)} g in
    rw g (continuation-said a b c d t x (o 1) (o 2) (o 3) r (eqb-true (x % 4) 2 k) (o 5) (leb-true 1 (x / 4) w.0) (omega (arith, leb-true 7 (length f) w.1)) short))
    (λ g. rw g tt)))
    (λ k. rw k (said-control f))))))))
    (λ e. rw e tt)

pub segments-are-encodings : SegmentsAreEncodings
segments-are-encodings f o s e = subst (Said f) e (said f o)

pub control-numbers : ControlNumbers
unfolding open_octets ack_octets close_octets
control-numbers = record { opening = λ id uuid. refl; ack = λ id. refl; close = λ id reason. refl }
