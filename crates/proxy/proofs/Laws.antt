-- Laws of the pieces of a message.
use Prim.Native.Nat.{ℕ, zero, suc, ◌+◌, ◌*◌, ◌-◌, ◌≤◌, ◌<◌}
use native.Mathlib.Nat.{mul-zero, mul-suc, div-eq-sub-div}
use native.Mathlib.Omega.{arith}
use mathlib.Core.Bool.{true}
use mathlib.Core.List.{List}
use mathlib.Core.Path.{◌≡◌, refl, sym}
use lib.ListN.{length}
use borrow.Author.Tests.{leb-true}
use Rattle.octets.specs.Cut.{place_of, size_of, piece}
use Rattle.octets.proofs.Cut.{place_up, piece-length, piece-begins, last-enough, last-least}
use Rattle.octets.proofs.Tests.{both_hold}
use Rattle.proxy.specs.Pieces.{piece_place, last_piece, is_cut, is_piece, CutAsked, PieceAsked}

-- what the tests of size, length, type and index tell
pub cut-asked : (z n : ℕ) → is_cut z n ≡ true → CutAsked z n
cut-asked z n e =
    let a = both_hold e in
    let b = both_hold a.0 in
    let c = both_hold a.1 in
    record { size-least = leb-true 20 z b.0; size-most = leb-true z 514 b.1; some-octets = leb-true 1 n c.0; few-octets = leb-true n 1469 c.1 }

pub piece-asked : (z t : ℕ) (m : List ℕ) (k : ℕ) → is_piece z t m k ≡ true → PieceAsked z t (length m) k
piece-asked z t m k e =
    let a = both_hold e in
    let b = both_hold a.1 in
    record { cut = cut-asked z (length m) a.0; type = leb-true t 3 b.0; index = leb-true k (last_piece z (length m)) b.1 }

-- pieces of one size stand at its multiples
pub place-times : (a k : ℕ) → place_of a a k ≡ a * k
place-times a zero = sym (mul-zero a)
place-times a (suc k) = omega (arith, mul-suc a k)

-- a message of n octets that is cut
module _ (z n : ℕ) (asked : CutAsked z n) where
  -- there is more than one piece exactly if the message is no shorter than the size
  pub more-pieces : z ≤ n → 0 < last_piece z n
  unfolding last_piece
  more-pieces h = let least = asked.size-least in omega (arith, div-eq-sub-div {m = z - 1} {n = n - (z - 1) + (z - 1 - 1)} (omega arith) (omega arith))

  pub one_piece : n < z → last_piece z n ≡ 0
  unfolding last_piece
  one_piece h = omega (arith, last-least (z - 1) (z - 1) n 0 (omega (arith, asked.size-least)) (omega arith))

  -- each piece begins within the message
  pub begins : (k : ℕ) → k ≤ last_piece z n → piece_place z k < n
  unfolding last_piece
  begins k h = piece-begins (z - 1) (z - 1) n k (omega (arith, asked.size-least)) asked.some-octets h

  -- the last one ends with it
  pub last-ends : n ≤ piece_place z (suc (last_piece z n))
  unfolding last_piece
  last-ends = last-enough (z - 1) (z - 1) n (omega (arith, asked.size-least))

-- each piece stands behind the one before it
pub place-next : (z k : ℕ) → piece_place z (suc k) ≡ piece_place z k + (z - 1)
place-next z zero = omega arith
place-next z (suc k) = omega (arith, mul-suc (z - 1) k)

pub data-long : (z : ℕ) (m : List ℕ) (k : ℕ) → length (piece (piece_place z) (length m) m k) ≡ size_of (piece_place z) (length m) k
data-long z m k = piece-length (piece_place z) refl (place_up (z - 1) (z - 1)) (length m) m k (omega arith)
