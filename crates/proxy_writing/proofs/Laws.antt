-- Laws of writing: what one division, one part of the message and one copy have to do with its pieces.
use Prim.Native.Nat.{ℕ, suc, ◌+◌, ◌*◌, ◌-◌, ◌/◌, ◌≤◌, ◌<◌, min}
use native.Mathlib.Nat.{div-eq_of_lt, div-le_self}
use native.Mathlib.Omega.{arith}
use mathlib.Core.List.{List, [], ◌∷◌}
use mathlib.Core.Path.{◌≡◌, sym, ap, ap₂, ◌∙◌}
use lib.Dec.{leb}
use lib.ListN.{length, set}
use borrow.Author.Tests.{leb-true, leb-false}
use Rattle.octets.specs.Parts.{part, write, copied}
use Rattle.octets.specs.Cut.{size_of, piece}
use Rattle.octets.proofs.Parts.{part_length, write-length, write-nothing, write-octet, write-next, copied-part}
use Rattle.octets.proofs.Tests.{cases}
use Rattle.proxy.specs.Pieces.{piece_place, last_piece, first_octet, piece_octets, CutAsked, PieceAsked}
use Rattle.proxy.proofs.Laws.{begins, place-times, data-long}

-- the last piece, by one division
pub last-divided : (z n : ℕ) → CutAsked z n → last_piece z n ≡ (n - 1) / (z - 1)
unfolding last_piece
last-divided z n a =
    cases (leb (z - 1) n)
    (λ e. let q : n - (z - 1) + (z - 1 - 1) ≡ n - 1 = omega (arith, a.size-least, leb-true (z - 1) n e) in ap (λ (x : ℕ). x / (z - 1)) q)
    (λ e. let h = leb-false (z - 1) n e in
    let s = a.size-least in
    let p : n - (z - 1) + (z - 1 - 1) < z - 1 = omega arith in
    let q : n - 1 < z - 1 = omega arith in
    div-eq_of_lt p ∙ sym (div-eq_of_lt q))

-- there are no more pieces than octets
pub last-small : (z n : ℕ) → CutAsked z n → last_piece z n < n
last-small z n asked = omega (arith, last-divided z n asked, div-le_self (n - 1) (z - 1), asked.some-octets)

-- each piece begins within the message
pub piece-within : (z t n k : ℕ) → PieceAsked z t n k → (z - 1) * k < n
piece-within z t n k a = rw (← (place-times (z - 1) k)) (begins z n a.cut k a.index)

-- how many octets of the message a piece has
pub piece-size : (z n k : ℕ) → size_of (piece_place z) n k ≡ min (z - 1) (n - (z - 1) * k)
piece-size z n k =
    let p = place-times (z - 1) k in
    omega arith

pub piece-long : (z t : ℕ) (m : List ℕ) (k : ℕ) → length (piece_octets z t m k) ≡ suc (min (z - 1) (length m - (z - 1) * k))
unfolding piece_octets
piece-long z t m k = ap suc (data-long z m k ∙ piece-size z (length m) k)

-- a piece, by the part of the message that it holds
pub piece-part : (z t : ℕ) (m : List ℕ) (k : ℕ)
    → piece_octets z t m k ≡ first_octet z t (length m) k ∷ part m ((z - 1) * k) (min (z - 1) (length m - (z - 1) * k))
unfolding piece_octets piece
piece-part z t m k =
    ap₂ (λ (from count : ℕ). first_octet z t (length m) k ∷ part m from count) (place-times (z - 1) k) (piece-size z (length m) k)

-- an octet and a copy behind it are one write
pub octet-copied : (l : List ℕ) (x : ℕ) (m : List ℕ) (from count : ℕ) → 1 + count ≤ length l → from + count ≤ length m
    → copied (set l 0 x) 1 m from count ≡ write l 0 (x ∷ part m from count)
octet-copied l x m from count room within =
    let one : set l 0 x ≡ write l 0 (x ∷ []) = rw (write-nothing l 0) at (write-octet l 0 [] x (omega arith)) in
    let d = part_length m from count within in
    rw one
    (copied-part (write l 0 (x ∷ [])) 1 m from count (omega (arith, write-length l 0 (x ∷ []) (omega arith))) within
    ∙ write-next l 0 (x ∷ []) (part m from count) (omega arith))
