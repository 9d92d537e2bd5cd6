-- What is promised of the writers and of the cut of a message. The proofs are `proofs/Promises.antt`.
use Rattle.std.specs.Prelude.{ℕ, ◌≤◌, min, Bool, true, List, [], ◌∷◌, ◌++◌, ◌≡◌, length, take, drop, Result, Ok, Err}
use Rattle.pb_adv.specs.declared.Frame.{Frame}
use Rattle.pb_adv.specs.declared.FrameRefusal.{FrameRefusal}
use Rattle.octets.specs.Parts.{part, write}
use Rattle.octets.specs.Told.{Told, answered}
use Rattle.octets.specs.Writing.{told, written, output_after}
use Rattle.octets.specs.Lengths.{is_length}
use Rattle.fcs.specs.Fcs.{check_octet}
use Rattle.transactions.specs.Segments.{seg_n, segment_place, segment_length, segment}
use Rattle.pb_adv.specs.Frame.{parsed, carried, index_of, told as frame_told, acknowledgement_octets, open_octets, ack_octets, close_octets, is_uuid}
use Rattle.pb_adv.specs.Promises.{segment_said}
use Rattle.transactions.specs.declared.TransactionNumber.{TransactionNumber}
use Rattle.pb_adv.specs.declared.Frame.TheVariants as P
use Rattle.pb_adv_writing.specs.Writing.{header_of, segment_frame, is_segment, message_frames}

-- parsing what a writer wrote gives a frame back, with the octets that it carries
abbrev pub GivesBack : Bool → List ℕ → List ℕ → Result Frame FrameRefusal → List ℕ → Type 0
GivesBack right frame output p d =
    (n : ℕ) → told (written right frame output) ≡ answered "written" (n ∷ [])
    → (parsed (take n (output_after right frame output)) ≡ p) × (carried (take n (output_after right frame output)) p ≡ d)

-- what octets say as a frame
abbrev pub parsed_told : List ℕ → Told
parsed_told f = frame_told (parsed f)

-- so for each of the five writers
pub record WritersGiveBack : Type 0 where
  pub segment-back : (id : ℕ) (t : TransactionNumber) (m : List ℕ) (k : ℕ) (output : List ℕ)
      → GivesBack (is_segment m k) (segment_frame id t m k) output (segment_said id t (header_of m k) (length (segment m k))) (segment m k)
  pub acknowledgement-back : (id : ℕ) (t : TransactionNumber) (output : List ℕ) → GivesBack true (acknowledgement_octets id t) output (Ok (P.Acknowledgement id t)) []
  pub open-back : (id : ℕ) (uuid output : List ℕ) → GivesBack (is_uuid uuid) (open_octets id uuid) output (Ok (P.Open id 6)) uuid
  pub ack-back : (id : ℕ) (output : List ℕ) → GivesBack true (ack_octets id) output (Ok (P.Ack id)) []
  pub close-back : (id reason : ℕ) (output : List ℕ) → GivesBack true (close_octets id reason) output (Ok (P.Close id reason)) []

-- the frames of a message's cut in words: "Start: high bits SegN; length L in 2 octets; check octet; segment 0", the check octet "over the message";
-- "Continuation: high bits the segment number; the segment"
pub record FramesSay (id : ℕ) (t : TransactionNumber) (m : List ℕ) : Type 0 where
  pub start : parsed_told (segment_frame id t m 0) ≡ answered "Start" (id ∷ t.0 ∷ length m ∷ check_octet m ∷ 9 ∷ min 20 (length m) ∷ [])
  pub continuation : (k : ℕ) → 1 ≤ k → k ≤ seg_n (length m)
      → parsed_told (segment_frame id t m k) ≡ answered "Continuation" (id ∷ t.0 ∷ k ∷ 6 ∷ segment_length (length m) k ∷ [])

abbrev pub AllFramesSay : Type 0
AllFramesSay = (id : ℕ) (t : TransactionNumber) (m : List ℕ) → is_length (length m) ≡ true → FramesSay id t m

-- a list with the octets of a parsed frame written at its segment's place; other frames write nothing
abbrev pub put_segment : List ℕ → List ℕ → Result Frame FrameRefusal → List ℕ
put_segment p f (Ok (P.Segment s)) = write p (segment_place (index_of s.header)) (part f s.from s.count)
put_segment p f (Ok (P.Acknowledgement id t)) = p
put_segment p f (Ok (P.Open id uuid)) = p
put_segment p f (Ok (P.Ack id)) = p
put_segment p f (Ok (P.Close id reason)) = p
put_segment p f (Err r) = p

abbrev pub put_frames : List ℕ → List (List ℕ) → List ℕ
put_frames p [] = p
put_frames p (f ∷ fs) = put_frames (put_segment p f (parsed f)) fs

-- the frames of a message's cut, joined by place, are the message, and nothing after it changes
abbrev pub CutJoins : Type 0
CutJoins =
    (id : ℕ) (t : TransactionNumber) (m p : List ℕ) → is_length (length m) ≡ true → length m ≤ length p
    → put_frames p (message_frames id t m) ≡ m ++ drop (length m) p
