-- The promises of `specs/Promises.antt`.
use Prim.Native.Nat.{ℕ, zero, suc, ◌≤◌, min}
use Rattle.pb_adv.specs.declared.Frame.{Frame}
use Rattle.pb_adv.specs.declared.FrameRefusal.{FrameRefusal}
use Rattle.std.specs.Prelude.{Result}
use native.Mathlib.Omega.{arith}
use mathlib.Core.Bool.{Bool, true}
use mathlib.Core.List.{List, [], ◌∷◌, ◌++◌, map}
use mathlib.Core.Path.{◌≡◌, refl, ap, ◌∙◌}
use lib.Dec.{leb}
use lib.ListN.{length}
use lib.Seq.{take_all}
use borrow.Author.Tests.{leb-true, eqb-true}
use Rattle.octets.specs.Parts.{write}
use Rattle.octets.specs.Cut.{up_to, placed}
use Rattle.octets.specs.Told.{answered}
use Rattle.octets.proofs.Writing.{wrote}
use Rattle.octets.proofs.Cut.{placed-cut, map-up-to}
use Rattle.octets.proofs.Tests.{both_hold}
use Rattle.fcs.specs.Fcs.{check_octet}
use Rattle.transactions.specs.Segments.{seg_n, segment_place, segment_length, segment}
use Rattle.pb_adv.specs.Frame.{parsed, carried, index_of, acknowledgement_octets, open_octets, ack_octets, close_octets, control_of, is_uuid}
use Rattle.pb_adv.specs.Promises.{segment_said, Fits}
use Rattle.transactions.specs.declared.TransactionNumber.{TransactionNumber}
use Rattle.transactions.proofs.Laws.{segment-begins, seg_n-small, segment-long}
use Rattle.pb_adv.proofs.Promises.{id-back, by-kind, parsed-segment, carried-segment}
use Rattle.pb_adv_writing.specs.Writing.{header_of, segment_frame, is_segment, SegmentAsked}
use Rattle.pb_adv_writing.specs.Promises.{GivesBack, parsed_told, WritersGiveBack, AllFramesSay, put_segment, put_frames, CutJoins}
use Rattle.pb_adv_writing.proofs.Laws.{segment-asked}

-- ---- writers

-- a writer gives back what its frame says, if its arguments are right
gives_back : (right : Bool) (frame output : List ℕ) (p : Result Frame FrameRefusal) (d : List ℕ) → (right ≡ true → (parsed frame ≡ p) × (carried frame p ≡ d)) → GivesBack right frame output p d
gives_back right frame output p d h n e =
    let w = wrote right frame output n e in
    rw w.1 (h w.0)

-- ---- parsing what was written

-- the segments of a message fit their headers
pub segment-fits : (m : List ℕ) (k : ℕ) → SegmentAsked m k → Fits (header_of m k) (length (segment m k))
unfolding header_of
segment-fits m zero a = (a.some-octets, a.few-octets, segment-long m 0 ∙ omega arith)
segment-fits m (suc k) a =
    let l = segment-long m (suc k) in
    let b = segment-begins (length m) (suc k) a.some-octets a.index in
    (omega arith, omega (arith, a.index, seg_n-small (length m) a.few-octets), omega arith, omega arith)

-- the frame of a segment of a message, parsed
pub parsed-frame : (id : ℕ) (t : TransactionNumber) (m : List ℕ) (k : ℕ) → SegmentAsked m k
    → parsed (segment_frame id t m k) ≡ segment_said id t (header_of m k) (length (segment m k))
unfolding segment_frame
parsed-frame id t m k a = parsed-segment id t (header_of m k) (segment m k) (segment-fits m k a)

pub carried-frame : (id : ℕ) (t : TransactionNumber) (m : List ℕ) (k : ℕ)
    → carried (segment_frame id t m k) (segment_said id t (header_of m k) (length (segment m k))) ≡ segment m k
unfolding segment_frame
carried-frame id t m k = carried-segment id t (header_of m k) (segment m k)

pub writers-give-back : WritersGiveBack
unfolding acknowledgement_octets open_octets ack_octets close_octets control_of
writers-give-back = record {
  segment-back = λ id t m k output.
      gives_back (is_segment m k) (segment_frame id t m k) output _ (segment m k)
      (λ e. (parsed-frame id t m k (segment-asked m k e), carried-frame id t m k));
  acknowledgement-back = λ id t output.
      gives_back true (acknowledgement_octets id t) output _ [] (λ e. (by-kind id t.0 1 [] (omega arith) ∙ rw (id-back id), refl));
  open-back = λ id uuid output.
      gives_back (is_uuid uuid) (open_octets id uuid) output _ uuid
      (λ e. let l : length uuid ≡ 16 = eqb-true (length uuid) 16 e in
      (by-kind id 0 3 uuid (omega arith) ∙ rw (l, id-back id), take_all 16 uuid (omega arith)));
  ack-back = λ id output. gives_back true (ack_octets id) output _ [] (λ e. (by-kind id 0 7 [] (omega arith) ∙ rw (id-back id), refl));
  close-back = λ id reason output.
      gives_back true (close_octets id reason) output _ [] (λ e. (by-kind id 0 11 (reason ∷ []) (omega arith) ∙ rw (id-back id), refl));
}

-- ---- what frames say

start-says : (id : ℕ) (t : TransactionNumber) (m : List ℕ) → SegmentAsked m 0
    → parsed_told (segment_frame id t m 0) ≡ answered "Start" (id ∷ t.0 ∷ length m ∷ check_octet m ∷ 9 ∷ min 20 (length m) ∷ [])
unfolding header_of
start-says id t m a = rw (parsed-frame id t m 0 a, (segment-fits m 0 a).2)

continuation-says : (id : ℕ) (t : TransactionNumber) (m : List ℕ) (k : ℕ) → 1 ≤ k → SegmentAsked m k
    → parsed_told (segment_frame id t m k) ≡ answered "Continuation" (id ∷ t.0 ∷ k ∷ 6 ∷ segment_length (length m) k ∷ [])
unfolding header_of
continuation-says id t m zero b a = absurd (omega arith)
continuation-says id t m (suc k) b a = rw (parsed-frame id t m (suc k) a, segment-long m (suc k))

pub all-frames-say : AllFramesSay
all-frames-say id t m e =
    let b = both_hold {a = leb 1 (length m)} {b = leb (length m) 1469} e in
    let asked : (k : ℕ) → k ≤ seg_n (length m) → SegmentAsked m k =
    λ k h. record { some-octets = leb-true 1 (length m) b.0; few-octets = leb-true (length m) 1469 b.1; index = h } in
    record { start = start-says id t m (asked 0 (omega arith)); continuation = λ k h i. continuation-says id t m k h (asked k i) }

-- ---- the cut, joined by place

put-append : (p : List ℕ) (fs gs : List (List ℕ)) → put_frames p (fs ++ gs) ≡ put_frames (put_frames p fs) gs
put-append p [] gs = refl
put-append p (f ∷ fs) gs = put-append (put_segment p f (parsed f)) fs gs

-- the segment's number is the one that its frame was cut under
index_back : (m : List ℕ) (k : ℕ) → index_of (header_of m k) ≡ k
unfolding header_of
index_back m zero = refl
index_back m (suc k) = refl

-- one frame of the cut writes its segment at its place
write-frame : (id : ℕ) (t : TransactionNumber) (m p : List ℕ) (k : ℕ) → SegmentAsked m k
    → put_segment p (segment_frame id t m k) (parsed (segment_frame id t m k)) ≡ write p (segment_place k) (segment m k)
write-frame id t m p k a =
    rw (parsed-frame id t m k a, index_back m k) (ap (write p (segment_place k)) (carried-frame id t m k))

-- the first k frames write the first k segments
put_front : (id : ℕ) (t : TransactionNumber) (m p : List ℕ) → 1 ≤ length m → length m ≤ 1469 → (k : ℕ) → k ≤ suc (seg_n (length m))
    → put_frames p (map (segment_frame id t m) (up_to k)) ≡ placed segment_place (length m) m p k
unfolding up_to
put_front id t m p some few zero b = refl
put_front id t m p some few (suc k) b =
    ap (put_frames p) (map-up-to (segment_frame id t m) k)
    ∙ put-append p (map (segment_frame id t m) (up_to k)) (segment_frame id t m k ∷ [])
    ∙ write-frame id t m (put_frames p (map (segment_frame id t m) (up_to k))) k (record { some-octets = some; few-octets = few; index = omega arith })
    ∙ rw (put_front id t m p some few k (omega arith))

pub cut-joins : CutJoins
cut-joins id t m p e room =
    let b = both_hold {a = leb 1 (length m)} {b = leb (length m) 1469} e in
    put_front id t m p (leb-true 1 (length m) b.0) (leb-true (length m) 1469 b.1) (suc (seg_n (length m))) (omega arith)
    ∙ placed-cut 20 23 (omega arith) m p room
