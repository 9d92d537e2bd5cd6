-- What the writers of frames write: they "take any number octet, write the frame and no octet after it, and give its length".
use Rattle.std.specs.Prelude.{ℕ, zero, suc, ◌≤◌, Bool, ◌&&◌, List, map, leb, length}
use Rattle.octets.specs.Cut.{up_to}
use Rattle.octets.specs.Lengths.{is_length}
use Rattle.fcs.specs.Fcs.{check_octet}
use Rattle.transactions.specs.Segments.{seg_n, segment}
use Rattle.pb_adv.specs.Frame.{segment_octets}
use Rattle.transactions.specs.declared.TransactionNumber.{TransactionNumber}
use Rattle.pb_adv.specs.declared.SegmentHeader.{SegmentHeader}
use Rattle.pb_adv.specs.declared.SegmentHeader.TheVariants.{Start, Continuation}

-- what stands before segment k of a message
unfoldable pub header_of : List ℕ → ℕ → SegmentHeader
header_of m zero = Start (length m) (check_octet m)
header_of m (suc k) = Continuation (suc k)

-- the frame of segment k of a message
unfoldable pub segment_frame : ℕ → TransactionNumber → List ℕ → ℕ → List ℕ
segment_frame id t m k = segment_octets id t (header_of m k) (segment m k)

-- a segment that can be written: the message's length is right, and the index is at most SegN
abbrev pub is_segment : List ℕ → ℕ → Bool
is_segment m k = is_length (length m) && leb k (seg_n (length m))

-- THE CUT OF A MESSAGE: the frames of its segments, in order
abbrev pub message_frames : ℕ → TransactionNumber → List ℕ → List (List ℕ)
message_frames id t m = map (segment_frame id t m) (up_to (suc (seg_n (length m))))

-- what the writing of segment k asks: a message of a right length, and an index of at most SegN
pub record SegmentAsked (m : List ℕ) (k : ℕ) : Type 0 where
  pub some-octets : 1 ≤ length m
  pub few-octets : length m ≤ 1469
  pub index : k ≤ seg_n (length m)
