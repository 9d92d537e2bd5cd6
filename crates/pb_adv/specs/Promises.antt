-- What is promised of frames beyond `parse`'s contract. The proofs are `proofs/Promises.antt`.
use Rattle.std.specs.Prelude.{ℕ, ◌≤◌, min, List, ◌≡◌, length, Result, Ok}
use Rattle.pb_adv.specs.declared.Frame.{Frame}
use Rattle.pb_adv.specs.declared.FrameRefusal.{FrameRefusal}
use Rattle.octets.specs.Numbers.{Octets}
use Rattle.octets.specs.Parts.{part}
use Rattle.pb_adv.specs.Frame.{number_of, parsed, header_length, segment_octets, open_octets, ack_octets, close_octets}
use Rattle.transactions.specs.declared.TransactionNumber.{TransactionNumber}
use Rattle.pb_adv.specs.declared.SegmentHeader.{SegmentHeader}
use Rattle.pb_adv.specs.declared.SegmentHeader.TheVariants.{Start, Continuation}
use Rattle.pb_adv.specs.declared.Segment.{Segment}
use Rattle.pb_adv.specs.declared.Frame.TheVariants as P

-- a segment as a frame says it, its octets standing behind its header
abbrev pub segment_said : ℕ → TransactionNumber → SegmentHeader → ℕ → Result Frame FrameRefusal
segment_said id t h count = Ok (P.Segment (record { id = id; number = t; header = h; from = header_length h; count = count }))

-- a segment's octets fit its header
abbrev pub Fits : SegmentHeader → ℕ → Type 0
Fits (Start n c) count = (1 ≤ n) × (n ≤ 1469) × (count ≡ min 20 n)
Fits (Continuation k) count = (1 ≤ k) × (k ≤ 63) × (1 ≤ count) × (count ≤ 23)

-- what parses as a segment is the encoding of that segment, and fits its header
pub record IsEncoding (f : List ℕ) (s : Segment) : Type 0 where
  pub encoded : f ≡ segment_octets s.id s.number s.header (part f s.from s.count)
  pub long : length (part f s.from s.count) ≡ s.count
  pub fits : Fits s.header s.count

abbrev pub SegmentsAreEncodings : Type 0
SegmentsAreEncodings = (f : List ℕ) → Octets f → (s : Segment) → parsed f ≡ Ok (P.Segment s) → IsEncoding f s

-- "Number written 0" in an Open, an Ack and a Close
pub record ControlNumbers : Type 0 where
  pub opening : (id : ℕ) (uuid : List ℕ) → (number_of (open_octets id uuid)).0 ≡ 0
  pub ack : (id : ℕ) → (number_of (ack_octets id)).0 ≡ 0
  pub close : (id reason : ℕ) → (number_of (close_octets id reason)).0 ≡ 0
