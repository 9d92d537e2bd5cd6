-- The PB-ADV frame: "Link ID 4, transaction number 1, then 1 to 24 octets whose first has the kind in its low two bits."
use Rattle.std.specs.Prelude.{ℕ, ◌+◌, ◌-◌, ◌*◌, ◌/◌, ◌%◌, min, Bool, ◌&&◌, cond, List, [], ◌∷◌, ◌++◌, leb, eqb, length, get_or, Result, Ok, Err}
use Rattle.pb_adv.specs.declared.Frame.{Frame}
use Rattle.octets.specs.Numbers.{big16, big32, octets16, octets32}
use Rattle.octets.specs.Parts.{part}
use Rattle.octets.specs.Told.{Told, refused, answered}
use Rattle.octets.specs.Lengths.{is_length}
use Rattle.transactions.specs.Segments.{seg_n}
use Rattle.transactions.specs.declared.TransactionNumber.{TransactionNumber}
use Rattle.pb_adv.specs.declared.SegmentHeader.{SegmentHeader}
use Rattle.pb_adv.specs.declared.SegmentHeader.TheVariants.{Start, Continuation}
use Rattle.pb_adv.specs.declared.Segment.{Segment}
use Rattle.pb_adv.specs.declared.FrameRefusal.{FrameRefusal}
use Rattle.pb_adv.specs.declared.FrameRefusal.TheVariants.{Malformed, UnknownOpcode}
use Rattle.pb_adv.specs.declared.Frame.TheVariants as P

-- ---- reading

abbrev pub link_id : List ℕ → ℕ
link_id f = big32 f 0

abbrev pub number_of : List ℕ → TransactionNumber
number_of f = record { 0 = get_or f 4 0 }

-- the kind: the low two bits of the sixth octet
abbrev pub kind_of : List ℕ → ℕ
kind_of f = get_or f 5 0 % 4

-- its high bits: SegN, padding, segment number or opcode, by the kind
abbrev pub high_bits : List ℕ → ℕ
high_bits f = get_or f 5 0 / 4

-- a segment whose octets stand in the frame from a place on
abbrev pub segment_from : List ℕ → SegmentHeader → ℕ → Result Frame FrameRefusal
segment_from f header from = Ok (P.Segment (record { id = link_id f; number = number_of f; header = header; from = from; count = length f - from }))

-- kind 0: "high bits SegN; length L in 2 octets; check octet; segment 0"
unfoldable pub is_start : List ℕ → Bool
is_start f = is_length (big16 f 6) && (eqb (high_bits f) (seg_n (big16 f 6)) && eqb (length f) (9 + min 20 (big16 f 6)))

abbrev pub start_of : List ℕ → Result Frame FrameRefusal
start_of f =
    cond (is_start f) (segment_from f (Start (big16 f 6) (get_or f 8 0)) 9) (Err Malformed)

-- kind 1: "high bits 0, nothing after"
abbrev pub acknowledgement_of : List ℕ → Result Frame FrameRefusal
acknowledgement_of f =
    cond (eqb (high_bits f) 0 && eqb (length f) 6) (Ok (P.Acknowledgement (link_id f) (number_of f))) (Err Malformed)

-- kind 2: "high bits the segment number; the segment"; not numbered 0, and with an octet
abbrev pub continuation_of : List ℕ → Result Frame FrameRefusal
continuation_of f =
    cond (leb 1 (high_bits f) && leb 7 (length f)) (segment_from f (Continuation (high_bits f)) 6) (Err Malformed)

-- kind 3: "high bits 0 Open (16-octet UUID), 1 Ack (nothing), 2 Close (one reason)"; the length inside an unknown opcode isn't judged
unfoldable pub control_of : List ℕ → Result Frame FrameRefusal
control_of f =
    cond (eqb (high_bits f) 0) (cond (eqb (length f) 22) (Ok (P.Open (link_id f) 6)) (Err Malformed))
    (cond (eqb (high_bits f) 1) (cond (eqb (length f) 6) (Ok (P.Ack (link_id f))) (Err Malformed))
    (cond (eqb (high_bits f) 2) (cond (eqb (length f) 7) (Ok (P.Close (link_id f) (get_or f 6 0))) (Err Malformed))
    (Err UnknownOpcode)))

abbrev pub by_kind : List ℕ → Result Frame FrameRefusal
by_kind f =
    cond (eqb (kind_of f) 0) (start_of f)
    (cond (eqb (kind_of f) 1) (acknowledgement_of f)
    (cond (eqb (kind_of f) 2) (continuation_of f)
    (control_of f)))

-- WHAT OCTETS SAY AS A FRAME, or refusal 1 or 2
unfoldable pub parsed : List ℕ → Result Frame FrameRefusal
parsed f = cond (leb 6 (length f) && leb (length f) 29) (by_kind f) (Err Malformed)

-- the Link ID of a frame
abbrev pub id_of : Frame → ℕ
id_of (P.Segment s) = s.id
id_of (P.Acknowledgement id t) = id
id_of (P.Open id uuid) = id
id_of (P.Ack id) = id
id_of (P.Close id reason) = id

-- the octets that a frame carries by place: a segment's, or an Open's UUID
abbrev pub carried : List ℕ → Result Frame FrameRefusal → List ℕ
carried f (Ok (P.Segment s)) = part f s.from s.count
carried f (Ok (P.Acknowledgement id t)) = []
carried f (Ok (P.Open id uuid)) = part f uuid 16
carried f (Ok (P.Ack id)) = []
carried f (Ok (P.Close id reason)) = []
carried f (Err r) = []

-- the number of a segment in its message
abbrev pub index_of : SegmentHeader → ℕ
index_of (Start n c) = 0
index_of (Continuation k) = k

-- how many octets stand before those of a segment
abbrev pub header_length : SegmentHeader → ℕ
header_length (Start n c) = 9
header_length (Continuation k) = 6

-- document 01's number of a refusal
abbrev pub refusal_number : FrameRefusal → ℕ
refusal_number Malformed = 1
refusal_number UnknownOpcode = 2

-- a segment's kind and values, from its header
abbrev pub told_segment : Segment → SegmentHeader → Told
told_segment s (Start n c) = answered "Start" (s.id ∷ s.number.0 ∷ n ∷ c ∷ s.from ∷ s.count ∷ [])
told_segment s (Continuation k) = answered "Continuation" (s.id ∷ s.number.0 ∷ k ∷ s.from ∷ s.count ∷ [])

-- the frame's kind and values
abbrev pub told : Result Frame FrameRefusal → Told
told (Ok (P.Segment s)) = told_segment s s.header
told (Ok (P.Acknowledgement id t)) = answered "Acknowledgement" (id ∷ t.0 ∷ [])
told (Ok (P.Open id uuid)) = answered "Open" (id ∷ uuid ∷ [])
told (Ok (P.Ack id)) = answered "Ack" (id ∷ [])
told (Ok (P.Close id reason)) = answered "Close" (id ∷ reason ∷ [])
told (Err r) = refused (refusal_number r)

-- ---- the octets of each frame

-- Link ID, transaction number, the octet of the kind, and the rest
abbrev pub frame_octets : ℕ → ℕ → ℕ → List ℕ → List ℕ
frame_octets id t x rest = octets32 id ++ (t ∷ x ∷ rest)

unfoldable pub segment_octets : ℕ → TransactionNumber → SegmentHeader → List ℕ → List ℕ
segment_octets id t (Start n c) d = frame_octets id t.0 (4 * seg_n n) (octets16 n ++ (c ∷ d))
segment_octets id t (Continuation k) d = frame_octets id t.0 (4 * k + 2) d

unfoldable pub acknowledgement_octets : ℕ → TransactionNumber → List ℕ
acknowledgement_octets id t = frame_octets id t.0 1 []

-- a UUID has 16 octets
abbrev pub is_uuid : List ℕ → Bool
is_uuid u = eqb (length u) 16

-- the frames of kind 3 have "number written 0"
unfoldable pub open_octets : ℕ → List ℕ → List ℕ
open_octets id uuid = frame_octets id 0 3 uuid

unfoldable pub ack_octets : ℕ → List ℕ
ack_octets id = frame_octets id 0 7 []

unfoldable pub close_octets : ℕ → ℕ → List ℕ
close_octets id reason = frame_octets id 0 11 (reason ∷ [])
