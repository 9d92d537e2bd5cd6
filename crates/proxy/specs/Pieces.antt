-- Proxy transfer, writing: the pieces of a message. The cut is the library's one cut, with both sizes the proxy size less one.
use Rattle.std.specs.Prelude.{ℕ, suc, ◌+◌, ◌*◌, ◌-◌, ◌≤◌, Bool, ◌&&◌, cond, List, [], ◌∷◌, map, leb, ltb, eqb, length, Result, Ok, Err}
use Rattle.octets.specs.Lengths.{is_length}
use Rattle.octets.specs.Cut.{place_of, last_of, piece, up_to}
use Rattle.octets.specs.Told.{Told, refused, answered}
use Rattle.octets.specs.declared.WrongArgument.{WrongArgument}

-- "size 20 to 514 counts that octet"
abbrev pub is_size : ℕ → Bool
is_size z = leb 20 z && leb z 514

-- "the type, 0 to 3"
abbrev pub is_type : ℕ → Bool
is_type t = leb t 3

-- where the octets of piece k stand in the message
abbrev pub piece_place : ℕ → ℕ → ℕ
piece_place z k = place_of (z - 1) (z - 1) k

-- the number of the last piece of n octets, counted from 0
unfoldable pub last_piece : ℕ → ℕ → ℕ
last_piece z n = last_of (z - 1) (z - 1) n

-- whole "if n is below the size"
abbrev pub is_whole : ℕ → ℕ → Bool
is_whole z n = ltb n z

-- the top two bits of piece k of n octets: "0 whole, 1 first, 2 middle, 3 last"
unfoldable pub top_bits : ℕ → ℕ → ℕ → ℕ
top_bits z n k = cond (is_whole z n) 0 (cond (eqb k 0) 1 (cond (eqb k (last_piece z n)) 3 2))

-- the first octet of piece k: "top two bits", "low six the type"
abbrev pub first_octet : ℕ → ℕ → ℕ → ℕ → ℕ
first_octet z t n k = 64 * top_bits z n k + t

-- piece k of a message: "full pieces of size less one, the last of what remains", each after its first octet
unfoldable pub piece_octets : ℕ → ℕ → List ℕ → ℕ → List ℕ
piece_octets z t m k = first_octet z t (length m) k ∷ piece (piece_place z) (length m) m k

-- THE PIECES OF A MESSAGE, in order
abbrev pub message_pieces : ℕ → ℕ → List ℕ → List (List ℕ)
message_pieces z t m = map (piece_octets z t m) (up_to (suc (last_piece z (length m))))

-- a size and a length by which a message is cut
abbrev pub is_cut : ℕ → ℕ → Bool
is_cut z n = is_size z && is_length n

-- the number of pieces, or refusal 11
unfoldable pub pieces_counted : ℕ → ℕ → Result ℕ WrongArgument
pieces_counted z n = cond (is_cut z n) (Ok (suc (last_piece z n))) (Err (record {}))

-- document 01's number and values of the count
abbrev pub count_told : Result ℕ WrongArgument → Told
count_told (Ok n) = answered "pieces" (n ∷ [])
count_told (Err e) = refused 11

-- a piece that can be written: size, length and type are right, and the index is not past the last piece
abbrev pub is_piece : ℕ → ℕ → List ℕ → ℕ → Bool
is_piece z t m k = is_cut z (length m) && (is_type t && leb k (last_piece z (length m)))

-- what the cut of n octets asks
pub record CutAsked (z n : ℕ) : Type 0 where
  pub size-least : 20 ≤ z
  pub size-most : z ≤ 514
  pub some-octets : 1 ≤ n
  pub few-octets : n ≤ 1469

-- what the writing of piece k asks
pub record PieceAsked (z t n k : ℕ) : Type 0 where
  pub cut : CutAsked z n
  pub type : t ≤ 3
  pub index : k ≤ last_piece z n
