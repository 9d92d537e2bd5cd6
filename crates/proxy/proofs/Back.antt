-- The pieces of a message, read one after the other, give the message back.
use Prim.Native.Nat.{ℕ, zero, suc, ◌+◌, ◌-◌, ◌≤◌, ◌<◌, min}
use native.Mathlib.Omega.{arith}
use mathlib.Core.Bool.{true, false, ◌||◌}
use mathlib.Core.List.{List, [], ◌∷◌, ◌++◌, map}
use mathlib.Core.Path.{◌≡◌, refl, sym, ap, ◌∙◌}
use lib.Dec.{eqb}
use Rattle.std.specs.Prelude.{Option, Some, None, Ok}
use lib.ListN.{length, drop, replicate}
use borrow.Author.Tests.{ltb-true, ltb-false, eqb-true, le-leb, eq-eqb, ne_eqb}
use Rattle.octets.specs.Parts.{write}
use Rattle.octets.specs.Cut.{piece, up_to, placed}
use Rattle.octets.specs.Told.{answered}
use Rattle.octets.proofs.Parts.{write-length}
use Rattle.octets.proofs.Cut.{map-up-to, placed-cut}
use Rattle.octets.proofs.Tests.{cases}
use Rattle.proxy.specs.Pieces.{is_type, piece_place, last_piece, is_whole, top_bits, piece_octets, message_pieces, CutAsked}
use Rattle.proxy.specs.Transfers.{is_good, is_refused, top_of, type_of, is_expected, is_like_first, held_length, complete, added, joining, offered, piece_read, buffer_after, told}
use Rattle.proxy.specs.Promises.{emptied, Run, run}
use Rattle.proxy.specs.declared.HalfTransfer.{HalfTransfer}
use Rattle.proxy.specs.declared.Transfer.{Transfer}
use Rattle.proxy.specs.declared.PieceAnswer.TheVariants as A
use Rattle.proxy.proofs.Laws.{begins, last-ends, one_piece, more-pieces, place-next, data-long}

-- connected, with this half-received
abbrev holding : Option HalfTransfer → Transfer
holding h = record { connected = true; half = h }

-- a piece that meets no refusal
read-good : (h : Option HalfTransfer) (p : List ℕ) → is_good (holding h) ≡ true → 2 ≤ length p → is_type (type_of p) ≡ true
    → is_expected h (top_of p) ≡ true → is_like_first h (type_of p) ≡ true → held_length h + (length p - 1) ≤ 1469
    → piece_read (holding h) 1469 p ≡ added (top_of p) (type_of p) (held_length h + (length p - 1))
unfolding piece_read offered joining
read-good h p good some type top like few =
    rw (good, le-leb 2 (length p) some, type, top, like, le-leb (held_length h + (length p - 1)) 1469 few)

-- ---- runs

-- one piece more
run-snoc : (s : Transfer) (b : List ℕ) (ps : List (List ℕ)) (q : List ℕ)
    → run s b (ps ++ (q ∷ []))
    ≡ record {
      answers = (run s b ps).answers ++ (told (piece_read (run s b ps).transfer (length (run s b ps).buffer) q).answer ∷ []);
      transfer = (piece_read (run s b ps).transfer (length (run s b ps).buffer) q).transfer;
      buffer = buffer_after (run s b ps).transfer (run s b ps).buffer q;
    }
run-snoc s b [] q = refl
run-snoc s b (p ∷ ps) q =
    ap (λ (r : Run). record { answers = told (piece_read s (length b) p).answer ∷ r.answers; transfer = r.transfer; buffer = r.buffer })
    (run-snoc (piece_read s (length b) p).transfer (buffer_after s b p) ps q)

replicate-snoc : {A : Type 0} (k : ℕ) (x : A) → replicate k x ++ (x ∷ []) ≡ replicate (suc k) x
replicate-snoc zero x = refl
replicate-snoc {A} (suc k) x = ap (λ (l : List A). x ∷ l) (replicate-snoc k x)

-- ---- the pieces of one message
module _ (z t : ℕ) (m : List ℕ) (asked : CutAsked z (length m)) (small : t ≤ 3) where
  abbrev n : ℕ
  n = length m

  abbrev N : ℕ
  N = last_piece z n

  -- what is held before piece k
  abbrev held_at : ℕ → Option HalfTransfer
  held_at zero = None
  held_at (suc k) = Some (record { kind = t; length = piece_place z (suc k) })

  expected-top : (k : ℕ) → k ≤ N → is_expected (held_at k) (top_bits z n k) ≡ true
  unfolding top_bits
  expected-top zero h = cases (is_whole z n) (λ e. rw e) (λ e. rw e)
  expected-top (suc k) h =
      cases (is_whole z n)
      (λ e. absurd (omega (arith, one_piece z n asked (ltb-true n z e))))
      (λ e. rw (e, ne_eqb (suc k) 0 (λ q. absurd (omega arith))) (cases (eqb (suc k) N) (λ e. rw e) (λ e. rw e)))

  ending-top : (k : ℕ) → k ≤ N → (eqb (top_bits z n k) 0 || eqb (top_bits z n k) 3) ≡ eqb k N
  unfolding top_bits
  ending-top k h =
      cases (is_whole z n)
      (λ e. rw e (sym (eq-eqb k N (omega (arith, one_piece z n asked (ltb-true n z e))))))
      (λ e. rw e (cases (eqb k 0)
      (λ f. rw f (sym (ne_eqb k N (λ q. absurd (omega (arith, eqb-true k 0 f, more-pieces z n asked (ltb-false n z e)))))))
      (λ f. rw f (cases (eqb k N) (λ g. rw g) (λ g. rw g)))))

  held-good : (k : ℕ) → k ≤ N → is_good (holding (held_at k)) ≡ true
  unfolding is_good
  held-good zero h = refl
  held-good (suc k) h =
      let b = begins z n asked (suc k) h in
      let s = asked.size-least in
      let f = asked.few-octets in
      rw (le-leb t 3 small, le-leb 1 (piece_place z (suc k)) (omega arith), le-leb (piece_place z (suc k)) 1469 (omega arith))

  like-first : (k : ℕ) → is_like_first (held_at k) t ≡ true
  like-first zero = refl
  like-first (suc k) = eq-eqb t t refl

  held_place : (k : ℕ) → held_length (held_at k) ≡ piece_place z k
  held_place zero = refl
  held_place (suc k) = refl

  -- where a piece ends
  ends : (k : ℕ) → k ≤ N → held_length (held_at k) + (length (piece_octets z t m k) - 1) ≡ min (piece_place z (suc k)) n
  unfolding piece_octets
  ends k h =
      let b = begins z n asked k h in
      let d = data-long z m k in
      let u = place-next z k in
      let a = asked.size-least in
      rw (held_place k) (omega arith)

  top_back : (k : ℕ) → top_of (piece_octets z t m k) ≡ top_bits z n k
  unfolding piece_octets
  top_back k = omega arith

  type-back : (k : ℕ) → type_of (piece_octets z t m k) ≡ t
  unfolding piece_octets
  type-back k = omega arith

  some-data : (k : ℕ) → k ≤ N → 2 ≤ length (piece_octets z t m k)
  unfolding piece_octets
  some-data k h =
      let b = begins z n asked k h in
      let d = data-long z m k in
      let u = place-next z k in
      let a = asked.size-least in
      omega arith

  -- piece k, read after those before it
  reads : (k : ℕ) → k ≤ N → piece_read (holding (held_at k)) 1469 (piece_octets z t m k) ≡ added (top_bits z n k) t (min (piece_place z (suc k)) n)
  reads k h =
      read-good (held_at k) (piece_octets z t m k) (held-good k h) (some-data k h)
      (rw (type-back k) (le-leb t 3 small))
      (rw (top_back k) (expected-top k h))
      (rw (type-back k) (like-first k))
      (omega (arith, ends k h, asked.few-octets))
      ∙ rw (top_back k, type-back k, ends k h)

  more : (k : ℕ) → k < N → piece_read (holding (held_at k)) 1469 (piece_octets z t m k) ≡ record { transfer = holding (held_at (suc k)); answer = Ok A.More }
  unfolding added
  more k h =
      let e : min (piece_place z (suc k)) n ≡ piece_place z (suc k) = omega (arith, begins z n asked (suc k) h) in
      reads k (omega arith) ∙ rw (ending-top k (omega arith), ne_eqb k N (λ q. absurd (omega arith)), e)

  last : piece_read (holding (held_at N)) 1469 (piece_octets z t m N) ≡ complete t n
  unfolding added
  last =
      let e : min (piece_place z (suc N)) n ≡ n = omega (arith, last-ends z n asked) in
      reads N (omega arith) ∙ rw (ending-top N (omega arith), eq-eqb N N refl, e)

  module _ (b : List ℕ) (room : length b ≡ 1469) where
    -- the buffer after the first k pieces
    abbrev buffer_at : ℕ → List ℕ
    buffer_at k = placed (piece_place z) n m b k

    buffer-long : (k : ℕ) → k ≤ suc N → length (buffer_at k) ≡ 1469
    buffer-long zero h = room
    buffer-long (suc k) h =
        let l = buffer-long k (omega arith) in
        let d = data-long z m k in
        let f = asked.few-octets in
        let s = begins z n asked k (omega arith) in
        write-length (buffer_at k) (piece_place z k) (piece (piece_place z) n m k) (omega arith) ∙ l

    buffer-next : (k : ℕ) → k ≤ N → is_refused (piece_read (holding (held_at k)) 1469 (piece_octets z t m k)).answer ≡ false
        → buffer_after (holding (held_at k)) (buffer_at k) (piece_octets z t m k) ≡ buffer_at (suc k)
    unfolding buffer_after piece_octets
    buffer-next k h e = rw (buffer-long k (omega arith), e) (ap (λ (at : ℕ). write (buffer_at k) at (piece (piece_place z) n m k)) (held_place k))

    -- the first k pieces, read
    run-front : (k : ℕ) → k ≤ N
        → run (emptied true) b (map (piece_octets z t m) (up_to k))
        ≡ record { answers = replicate k (answered "more" []); transfer = holding (held_at k); buffer = buffer_at k }
    unfolding up_to
    run-front zero h = refl
    run-front (suc k) h =
        ap (run (emptied true) b) (map-up-to (piece_octets z t m) k)
        ∙ run-snoc (emptied true) b (map (piece_octets z t m) (up_to k)) (piece_octets z t m k)
        ∙ rw (run-front k (omega arith))
        (rw (buffer-long k (omega arith), buffer-next k (omega arith) (rw (more k h)), more k h, replicate-snoc k (answered "more" [])))

    whole-buffer : buffer_at (suc N) ≡ m ++ drop n b
    unfolding last_piece
    whole-buffer = placed-cut (z - 1) (z - 1) (omega (arith, asked.size-least)) m b (omega (arith, asked.few-octets))

    pub all-pieces : run (emptied true) b (message_pieces z t m)
        ≡ record {
          answers = replicate N (answered "more" []) ++ (answered "whole" (t ∷ n ∷ []) ∷ []);
          transfer = emptied true;
          buffer = m ++ drop n b;
        }
    all-pieces =
        ap (run (emptied true) b) (map-up-to (piece_octets z t m) N)
        ∙ run-snoc (emptied true) b (map (piece_octets z t m) (up_to N)) (piece_octets z t m N)
        ∙ rw (run-front N (omega arith))
        (rw (buffer-long N (omega arith), buffer-next N (omega arith) (rw last), last, whole-buffer))
