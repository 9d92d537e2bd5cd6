-- What is promised of the proxy transfer beyond each call's contract. The proofs are `proofs/Promises.antt`.
use Rattle.std.specs.Prelude.{ℕ, ◌+◌, ◌*◌, ◌-◌, ◌≤◌, ◌<◌, Bool, true, false, ◌&&◌, List, [], ◌∷◌, ◌++◌, map, ◌≡◌, leb, length, take, drop, get_or, replicate, Some, None}
use Prim.Native.String.{String}
use Rattle.octets.specs.Parts.{write}
use Rattle.octets.specs.Cut.{joined}
use Rattle.octets.specs.Told.{Told, refused, answered}
use Rattle.octets.specs.Writing.{told as writer_told, written, output_after}
use Rattle.proxy.specs.Pieces.{is_cut, is_type, is_piece, last_piece, piece_octets, message_pieces}
use Rattle.proxy.specs.Transfers.{is_good, set_connected, connection_told, type_of, data_of, held_length, piece_read, buffer_after, told}
use Rattle.proxy.specs.declared.Transfer.{Transfer}

-- connected or not, with nothing half-received: in the statements' own words, and not the rule's `empty`
abbrev pub emptied : Bool → Transfer
emptied connected = record { connected = connected; half = None }

-- ---- refusals, and good states

-- "23 to 25 disconnect"
abbrev pub disconnects : ℕ → Bool
disconnects n = leb 23 n && leb n 25

-- "No refusal touches the buffer"; "23 to 25 disconnect and drop the half-received message", and the others leave the transfer as it was
pub record PieceRefused (s : Transfer) (b p : List ℕ) (n : ℕ) : Type 0 where
  pub buffer : buffer_after s b p ≡ b
  pub keeps : disconnects n ≡ false → (piece_read s (length b) p).transfer ≡ s
  pub drops : disconnects n ≡ true → (piece_read s (length b) p).transfer ≡ emptied false

abbrev pub RefusalKeeps : Type 0
RefusalKeeps = (s : Transfer) (b p : List ℕ) (n : ℕ) → told (piece_read s (length b) p).answer ≡ refused n → PieceRefused s b p n

abbrev pub ConnectionRefusalKeeps : Type 0
ConnectionRefusalKeeps = (c : Bool) (s : Transfer) (n : ℕ) → connection_told (set_connected c s).answer ≡ refused n → (set_connected c s).transfer ≡ s

-- a good transfer stays good under every call, and a new one is good
pub record KeepsGood : Type 0 where
  pub new : is_good (emptied false) ≡ true
  pub connects : (c : Bool) (s : Transfer) → is_good s ≡ true → is_good (set_connected c s).transfer ≡ true
  pub reads : (s : Transfer) (b p : List ℕ) → is_good s ≡ true → is_good (piece_read s (length b) p).transfer ≡ true

-- ---- "A good piece is added after what is held, the rest unchanged, and answers 'more', or type and length when whole."

pub record PieceAdded (s : Transfer) (b p : List ℕ) : Type 0 where
  pub more : told (piece_read s (length b) p).answer ≡ answered "more" []
      → (piece_read s (length b) p).transfer ≡ record { connected = true; half = Some (record { kind = type_of p; length = held_length s.half + length (data_of p) }) }
  pub whole : (values : List ℕ) → told (piece_read s (length b) p).answer ≡ answered "whole" values → (piece_read s (length b) p).transfer ≡ emptied true
  pub buffer : (word : String) (values : List ℕ) → told (piece_read s (length b) p).answer ≡ answered word values
      → buffer_after s b p ≡ write b (held_length s.half) (data_of p)

abbrev pub PiecesAdded : Type 0
PiecesAdded = (s : Transfer) (b p : List ℕ) → PieceAdded s b p

-- "Reconnecting starts empty."
abbrev pub ConnectionStartsEmpty : Type 0
ConnectionStartsEmpty = (c : Bool) (s : Transfer) → connection_told (set_connected c s).answer ≡ answered "done" [] → (set_connected c s).transfer ≡ emptied c

-- ---- pieces read one after the other

-- what was answered, and the transfer and the buffer at the end
pub record Run : Type 0 where
  pub answers : List Told
  pub transfer : Transfer
  pub buffer : List ℕ

-- each call takes transfer and buffer as the call before left them
abbrev pub run : Transfer → List ℕ → List (List ℕ) → Run
run s b [] = record { answers = []; transfer = s; buffer = b }
run s b (p ∷ ps) =
    let rest = run (piece_read s (length b) p).transfer (buffer_after s b p) ps in
    record { answers = told (piece_read s (length b) p).answer ∷ rest.answers; transfer = rest.transfer; buffer = rest.buffer }

-- THE MESSAGE COMES BACK: for every size, type and message, and any buffer, its pieces are answered "more" but the last, which is answered type and
-- length; the message stands at the start of the buffer, the rest of which is unchanged, and the transfer is connected and empty
abbrev pub Back : Type 0
Back =
    (z t : ℕ) (m b : List ℕ) → is_cut z (length m) ≡ true → is_type t ≡ true → length b ≡ 1469
    → run (emptied true) b (message_pieces z t m)
    ≡ record {
      answers = replicate (last_piece z (length m)) (answered "more" []) ++ (answered "whole" (t ∷ length m ∷ []) ∷ []);
      transfer = emptied true;
      buffer = m ++ drop (length m) b;
    }

-- ---- the list of pieces

-- what was written is the piece of that number in the list
abbrev pub WritesPieces : Type 0
WritesPieces =
    (z t : ℕ) (m : List ℕ) (k : ℕ) (output : List ℕ) (n : ℕ)
    → writer_told (written (is_piece z t m k) (piece_octets z t m k) output) ≡ answered "written" (n ∷ [])
    → take n (output_after (is_piece z t m k) (piece_octets z t m k) output) ≡ get_or (message_pieces z t m) k []

-- the cut in document 01's words
pub record CutAsSaid (z t : ℕ) (m : List ℕ) : Type 0 where
  -- "goes whole if n is below the size"
  pub whole : length m < z → message_pieces z t m ≡ (t ∷ m) ∷ []
  -- "else in full pieces of size less one"
  pub full : (k : ℕ) → k < last_piece z (length m) → length (data_of (piece_octets z t m k)) ≡ z - 1
  -- "the last of what remains"
  pub remains : length (data_of (piece_octets z t m (last_piece z (length m)))) + (z - 1) * last_piece z (length m) ≡ length m
  -- which is at least one octet and at most a full piece
  pub some-octet : 1 ≤ length (data_of (piece_octets z t m (last_piece z (length m))))
  pub no_more : length (data_of (piece_octets z t m (last_piece z (length m)))) ≤ z - 1
  -- all octets, in order
  pub in_order : joined (map data_of (message_pieces z t m)) ≡ m

abbrev pub CutsAsSaid : Type 0
CutsAsSaid = (z t : ℕ) (m : List ℕ) → is_cut z (length m) ≡ true → CutAsSaid z t m
