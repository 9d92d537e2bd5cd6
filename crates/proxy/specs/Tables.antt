-- The tables of the proxy transfer's calls, to be held beside document 01: each condition in its words, from numbers, and by none of the tests that
-- the definitions make. The proofs are `proofs/Tables.antt`.
use Rattle.std.specs.Prelude.{ℕ, ◌+◌, ◌-◌, ◌/◌, ◌%◌, Bool, true, false, ◌||◌, not, List, [], ◌∷◌, leb, ltb, eqb, length, get_or, Option, Some, None}
use Rattle.octets.specs.Tables.{Row, refusal, reply, ByTable}
use Rattle.octets.specs.Writing.{told as writer_told, written}
use Rattle.proxy.specs.Pieces.{piece_octets, message_pieces, pieces_counted, count_told, is_piece}
use Rattle.proxy.specs.Transfers.{set_connected, connection_told, piece_read, told}
use Rattle.proxy.specs.declared.HalfTransfer.{HalfTransfer}
use Rattle.proxy.specs.declared.Transfer.{Transfer}

-- ---- writing

-- "size 20 to 514", "A message of n octets, 1 to 1,469"
abbrev pub is_wrong_cut : ℕ → ℕ → Bool
is_wrong_cut size n = ltb size 20 || ltb 514 size || (ltb n 1 || ltb 1469 n)

-- "The number of pieces reported is the length of that list."
abbrev pub count_rows : ℕ → ℕ → List ℕ → List Row
count_rows size type m =
    refusal 11 (is_wrong_cut size (length m))
    ∷ reply "pieces" (length (message_pieces size type m) ∷ []) true
    ∷ []

abbrev pub CountTable : Type 0
CountTable = (size type : ℕ) (m : List ℕ) → ByTable (count_told (pieces_counted size (length m))) (count_rows size type m)

-- 11: "output shorter than what is written, index [..] past the last proxy piece, message [..] length, size, type"
abbrev pub write_rows : ℕ → ℕ → List ℕ → ℕ → List ℕ → List Row
write_rows size type m k output =
    let octets = piece_octets size type m k in
    refusal 11 (is_wrong_cut size (length m) || (ltb 3 type || leb (length (message_pieces size type m)) k) || ltb (length output) (length octets))
    ∷ reply "written" (length octets ∷ []) true
    ∷ []

abbrev pub WriteTable : Type 0
WriteTable =
    (size type : ℕ) (m : List ℕ) (k : ℕ) (output : List ℕ)
    → ByTable (writer_told (written (is_piece size type m k) (piece_octets size type m k) output)) (write_rows size type m k output)

-- ---- connect and disconnect

-- 14: "a half transfer of 0 or over 1,469 octets, of type above 3 or while disconnected"
abbrev pub is_bad : Bool → Option HalfTransfer → Bool
is_bad connected None = false
is_bad connected (Some h) = eqb h.length 0 || ltb 1469 h.length || ltb 3 h.kind || not connected

abbrev pub connection_rows : Transfer → List Row
connection_rows s = refusal 14 (is_bad s.connected s.half) ∷ reply "done" [] true ∷ []

abbrev pub ConnectionTable : Type 0
ConnectionTable = (connected : Bool) (s : Transfer) → ByTable (connection_told (set_connected connected s).answer) (connection_rows s)

-- ---- a piece read

-- "23 unexpected top bits": middle or last with nothing half-received, whole or first with a half-received message
abbrev pub is_unexpected : Option HalfTransfer → ℕ → Bool
is_unexpected None top = ltb 1 top
is_unexpected (Some h) top = ltb top 2

-- "24 type unlike the first piece"
abbrev pub is_unlike_first : Option HalfTransfer → ℕ → Bool
is_unlike_first None type = false
is_unlike_first (Some h) type = not (eqb h.kind type)

-- the message's length so far, with more octets after what is held
abbrev pub length_after : Option HalfTransfer → ℕ → ℕ
length_after None more = more
length_after (Some h) more = h.length + more

abbrev pub piece_rows : Transfer → ℕ → List ℕ → List Row
piece_rows s room p =
    -- "First octet: top two bits 0 whole, 1 first, 2 middle, 3 last; low six the type, 0 to 3."
    let top = get_or p 0 0 / 64 in
    let type = get_or p 0 0 % 64 in
    let total = length_after s.half (length p - 1) in
    -- "11 and 14 come first"; "buffer of 1,469 octets (else 11)"
    refusal 11 (not (eqb room 1469))
    ∷ refusal 14 (is_bad s.connected s.half)
    -- "26 disconnected; 21 no data octet; 22 reserved type, ignored; 23 unexpected top bits; 24 type unlike the first piece; 25 beyond 1,469. In that order."
    ∷ refusal 26 (not s.connected)
    ∷ refusal 21 (ltb (length p) 2)
    ∷ refusal 22 (ltb 3 type)
    ∷ refusal 23 (is_unexpected s.half top)
    ∷ refusal 24 (is_unlike_first s.half type)
    ∷ refusal 25 (ltb 1469 total)
    -- "answers 'more', or type and length when whole"
    ∷ reply "whole" (type ∷ total ∷ []) (eqb top 0 || eqb top 3)
    ∷ reply "more" [] true
    ∷ []

abbrev pub PieceTable : Type 0
PieceTable = (s : Transfer) (room : ℕ) (p : List ℕ) → ByTable (told (piece_read s room p).answer) (piece_rows s room p)
