-- Laws of the frames of a message.
use Prim.Native.Nat.{ℕ, zero, suc, ◌+◌, ◌*◌, ◌≤◌}
use native.Mathlib.Omega.{arith}
use mathlib.Core.Bool.{true}
use mathlib.Core.List.{List}
use mathlib.Core.Path.{◌≡◌, refl}
use lib.ListN.{length}
use borrow.Author.Tests.{leb-true}
use Rattle.octets.proofs.Tests.{both_hold}
use Rattle.transactions.specs.Segments.{seg_n, segment_length, segment}
use Rattle.pb_adv.specs.Frame.{header_length, frame_octets, segment_octets}
use Rattle.transactions.specs.declared.TransactionNumber.{TransactionNumber}
use Rattle.transactions.proofs.Laws.{segment-long}
use Rattle.pb_adv_writing.specs.Writing.{header_of, segment_frame, is_segment, SegmentAsked}

-- the frame of a further segment
pub continuation-frame : (id : ℕ) (t : TransactionNumber) (m : List ℕ) (k : ℕ) → 1 ≤ k → segment_frame id t m k ≡ frame_octets id t.0 (4 * k + 2) (segment m k)
unfolding segment_frame header_of segment_octets
continuation-frame id t m zero h = absurd (omega arith)
continuation-frame id t m (suc k) h = refl

-- what an index of at most SegN tells
pub segment-asked : (m : List ℕ) (k : ℕ) → is_segment m k ≡ true → SegmentAsked m k
segment-asked m k e =
    let a = both_hold e in
    let b = both_hold a.0 in
    record { some-octets = leb-true 1 (length m) b.0; few-octets = leb-true (length m) 1469 b.1; index = leb-true k (seg_n (length m)) a.1 }

pub frame-long : (id : ℕ) (t : TransactionNumber) (m : List ℕ) (k : ℕ) → length (segment_frame id t m k) ≡ header_length (header_of m k) + segment_length (length m) k
unfolding segment_frame header_of segment_octets
frame-long id t m zero = omega (arith, segment-long m 0)
frame-long id t m (suc k) = omega (arith, segment-long m (suc k))
