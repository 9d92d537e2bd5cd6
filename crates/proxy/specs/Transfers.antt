-- Proxy transfer, reading: what a piece does to the transfer and to the lent buffer.
use Rattle.std.specs.Prelude.{ℕ, ◌+◌, ◌-◌, ◌/◌, ◌%◌, Bool, true, false, ◌&&◌, ◌||◌, cond, List, [], ◌∷◌, leb, eqb, length, drop, get_or, Option, Some, None, Result, Ok, Err}
use Rattle.octets.specs.Parts.{write}
use Rattle.octets.specs.Told.{Told, refused, answered}
use Rattle.octets.specs.Lengths.{is_length}
use Rattle.proxy.specs.Pieces.{is_type}
use Rattle.proxy.specs.declared.HalfTransfer.{HalfTransfer}
use Rattle.proxy.specs.declared.Transfer.{Transfer}
use Rattle.proxy.specs.declared.ConnectionSet.{ConnectionSet}
use Rattle.proxy.specs.declared.BadState.{BadState}
use Rattle.proxy.specs.declared.PieceRefusal.{PieceRefusal}
use Rattle.proxy.specs.declared.PieceRefusal.TheVariants as R
use Rattle.proxy.specs.declared.PieceAnswer.{PieceAnswer}
use Rattle.proxy.specs.declared.PieceAnswer.TheVariants as A
use Rattle.proxy.specs.declared.PieceRead.{PieceRead}

-- connected or not, with nothing half-received
abbrev pub empty : Bool → Transfer
empty connected = record { connected = connected; half = None }

-- "a half transfer of 0 or over 1,469 octets, of type above 3 or while disconnected" is bad
abbrev pub is_good_half : Bool → Option HalfTransfer → Bool
is_good_half connected None = true
is_good_half connected (Some h) = connected && (is_type h.kind && is_length h.length)

unfoldable pub is_good : Transfer → Bool
is_good s = is_good_half s.connected s.half

-- ---- connect and disconnect: 14, or "starts empty"

unfoldable pub set_connected : Bool → Transfer → ConnectionSet
set_connected connected s = cond (is_good s) (record { transfer = empty connected; answer = Ok tt }) (record { transfer = s; answer = Err (record {}) })

abbrev pub connection_told : Result (Unit {0}) BadState → Told
connection_told (Ok u) = answered "done" []
connection_told (Err e) = refused 14

-- ---- a piece

abbrev pub top_of : List ℕ → ℕ
top_of p = get_or p 0 0 / 64

abbrev pub type_of : List ℕ → ℕ
type_of p = get_or p 0 0 % 64

-- the octets after the first
abbrev pub data_of : List ℕ → List ℕ
data_of p = drop 1 p

-- how many octets are held
abbrev pub held_length : Option HalfTransfer → ℕ
held_length None = 0
held_length (Some h) = h.length

-- whether top bits are expected: whole or first with nothing held, middle or last with something held
abbrev pub is_expected : Option HalfTransfer → ℕ → Bool
is_expected None top = leb top 1
is_expected (Some h) top = leb 2 top

-- whether a type is that of the first piece
abbrev pub is_like_first : Option HalfTransfer → ℕ → Bool
is_like_first None u = true
is_like_first (Some h) u = eqb h.kind u

-- a refusal that keeps the transfer
abbrev pub refusing : Transfer → PieceRefusal → PieceRead
refusing s r = record { transfer = s; answer = Err r }

-- "23 to 25 disconnect and drop the half-received message."
abbrev pub disconnecting : PieceRefusal → PieceRead
disconnecting r = record { transfer = empty false; answer = Err r }

-- "type and length when whole"
abbrev pub complete : ℕ → ℕ → PieceRead
complete t n = record { transfer = empty true; answer = Ok (A.Whole t n) }

-- a good piece, after which n octets are there: complete with top bits 0 and 3, else "more"
unfoldable pub added : ℕ → ℕ → ℕ → PieceRead
added top t n =
    cond (eqb top 0 || eqb top 3) (complete t n)
    (record { transfer = record { connected = true; half = Some (record { kind = t; length = n }) }; answer = Ok A.More })

-- 23, 24, 25, or good: a piece of `count` data octets after what is held
unfoldable pub joining : Option HalfTransfer → ℕ → ℕ → ℕ → PieceRead
joining h top t count =
    cond (is_expected h top)
    (cond (is_like_first h t)
    (cond (leb (held_length h + count) 1469) (added top t (held_length h + count)) (disconnecting R.TooLong))
    (disconnecting R.OtherType))
    (disconnecting R.UnexpectedTopBits)

-- 21, 22, then those
unfoldable pub offered : Transfer → List ℕ → PieceRead
offered s p =
    cond (leb 2 (length p))
    (cond (is_type (type_of p)) (joining s.half (top_of p) (type_of p) (length p - 1)) (refusing s R.ReservedType))
    (refusing s R.NoData)

-- A PIECE READ, with a buffer of `room` octets: 11, 14, 26, then those
unfoldable pub piece_read : Transfer → ℕ → List ℕ → PieceRead
piece_read s room p =
    cond (eqb room 1469)
    (cond (is_good s)
    (cond s.connected (offered s p) (refusing s R.Disconnected))
    (refusing s R.BadState))
    (refusing s R.WrongArgument)

abbrev pub is_refused : Result PieceAnswer PieceRefusal → Bool
is_refused (Ok a) = false
is_refused (Err r) = true

-- the buffer after a piece: "No refusal touches the buffer. A good piece is added after what is held, the rest unchanged"
unfoldable pub buffer_after : Transfer → List ℕ → List ℕ → List ℕ
buffer_after s b p = cond (is_refused (piece_read s (length b) p).answer) b (write b (held_length s.half) (data_of p))

-- document 01's numbers and words
abbrev pub refusal_number : PieceRefusal → ℕ
refusal_number R.WrongArgument = 11
refusal_number R.BadState = 14
refusal_number R.NoData = 21
refusal_number R.ReservedType = 22
refusal_number R.UnexpectedTopBits = 23
refusal_number R.OtherType = 24
refusal_number R.TooLong = 25
refusal_number R.Disconnected = 26

abbrev pub told : Result PieceAnswer PieceRefusal → Told
told (Ok A.More) = answered "more" []
told (Ok (A.Whole t n)) = answered "whole" (t ∷ n ∷ [])
told (Err r) = refused (refusal_number r)
