-- WHAT OCTETS SAY AS A FRAME, BY A TABLE: refusals 1 and 2 in document 01's words, and the kinds of frame. The proof is `proofs/Tables.antt`.
use Rattle.std.specs.Prelude.{ℕ, ◌+◌, ◌-◌, min, Bool, true, ◌&&◌, ◌||◌, not, cond, List, [], ◌∷◌, leb, eqb, length, get_or}
use Rattle.octets.specs.Numbers.{big16}
use Rattle.octets.specs.Tables.{Row, refusal, reply, ByTable}
use Rattle.transactions.specs.Segments.{seg_n}
use Rattle.pb_adv.specs.Frame.{link_id, number_of, kind_of, high_bits, parsed, told}

-- 0 Start, 1 Acknowledgement, 2 Continuation, 3 Control
abbrev pub is_kind : ℕ → List ℕ → Bool
is_kind kind f = eqb (kind_of f) kind

-- a control frame by its opcode: 0 Open, 1 Ack, 2 Close
abbrev pub is_control : ℕ → List ℕ → Bool
is_control opcode f = is_kind 3 f && eqb (high_bits f) opcode

abbrev pub is_segment : List ℕ → Bool
is_segment f = is_kind 0 f || is_kind 2 f

-- ---- 1: "not 6 to 29 octets, or the body doesn't fit its kind"

-- L of a Start
abbrev pub length_in : List ℕ → ℕ
length_in f = big16 f 6

-- "Start with L, SegN or segment 0 not as above": L is 1 to 1,469, SegN that of L, and segment 0 has up to 20 octets
abbrev pub start_fits : List ℕ → Bool
start_fits f =
    (leb 1 (length_in f) && leb (length_in f) 1469) && (eqb (high_bits f) (seg_n (length_in f)) && eqb (length f) (9 + min 20 (length_in f)))

-- "padding": "high bits 0, nothing after"
abbrev pub acknowledgement_fits : List ℕ → Bool
acknowledgement_fits f = eqb (high_bits f) 0 && eqb (length f) 6

-- "Continuation numbered 0 or with no octet"
abbrev pub continuation_fits : List ℕ → Bool
continuation_fits f = leb 1 (high_bits f) && leb 7 (length f)

-- "control length": "0 Open (16-octet UUID), 1 Ack (nothing), 2 Close (one reason)"; "length inside an unknown opcode isn't judged"
abbrev pub control_fits : List ℕ → Bool
control_fits f =
    cond (eqb (high_bits f) 0) (eqb (length f) 22)
    (cond (eqb (high_bits f) 1) (eqb (length f) 6)
    (cond (eqb (high_bits f) 2) (eqb (length f) 7)
    true))

abbrev pub body_fits : List ℕ → Bool
body_fits f =
    cond (is_kind 0 f) (start_fits f)
    (cond (is_kind 1 f) (acknowledgement_fits f)
    (cond (is_kind 2 f) (continuation_fits f)
    (control_fits f)))

abbrev pub malformed : List ℕ → Bool
malformed f = not ((leb 6 (length f) && leb (length f) 29) && body_fits f)

-- ---- 2: "control opcode 3 to 63"

abbrev pub unknown_opcode : List ℕ → Bool
unknown_opcode f = is_kind 3 f && leb 3 (high_bits f)

-- ---- the table

-- how many octets stand from a place on
abbrev pub behind : List ℕ → ℕ → ℕ
behind f place = length f - place

abbrev pub frame_rows : List ℕ → List Row
frame_rows f =
    refusal 1 (malformed f)
    ∷ refusal 2 (unknown_opcode f)
    ∷ reply "Start" (link_id f ∷ (number_of f).0 ∷ length_in f ∷ get_or f 8 0 ∷ 9 ∷ behind f 9 ∷ []) (is_kind 0 f)
    ∷ reply "Acknowledgement" (link_id f ∷ (number_of f).0 ∷ []) (is_kind 1 f)
    ∷ reply "Continuation" (link_id f ∷ (number_of f).0 ∷ high_bits f ∷ 6 ∷ behind f 6 ∷ []) (is_kind 2 f)
    ∷ reply "Open" (link_id f ∷ 6 ∷ []) (is_control 0 f)
    ∷ reply "Ack" (link_id f ∷ []) (is_control 1 f)
    ∷ reply "Close" (link_id f ∷ get_or f 6 0 ∷ []) (is_control 2 f)
    ∷ []

abbrev pub FrameTable : Type 0
FrameTable = (f : List ℕ) → ByTable (told (parsed f)) (frame_rows f)
