-- Sockets, which count from 1, and places, which count from 0.
use Prim.Native.Nat.{ℕ, ◌+◌, ◌-◌, ◌<◌}
use native.Mathlib.Omega.{arith}
use mathlib.Core.Bool.{true}
use mathlib.Core.Path.{◌≡◌}
use lib.Dec.{leb}
use borrow.Author.Tests.{leb-true, le-leb}
use Rattle.octets.proofs.Tests.{both_hold, holds-both}
use Rattle.transactions.specs.Numbers.{is_socket, socket_place}
use Rattle.transactions.specs.declared.Socket.{Socket}

-- the socket of a place
abbrev pub socket_at : ℕ → Socket
socket_at s = record { 0 = s + 1 }

pub place-below : (s : Socket) (n : ℕ) → is_socket s n ≡ true → socket_place s < n
place-below s n e =
    let b = both_hold {a = leb 1 s.0} {b = leb s.0 n} e in
    omega (arith, leb-true 1 s.0 b.0, leb-true s.0 n b.1)

pub socket-at : (s : Socket) (n : ℕ) → is_socket s n ≡ true → socket_at (socket_place s) ≡ s
socket-at s n e =
    let b = both_hold {a = leb 1 s.0} {b = leb s.0 n} e in
    let q : s.0 - 1 + 1 ≡ s.0 = omega (arith, leb-true 1 s.0 b.0) in
    λ i. record { 0 = q i }

pub is-socket : (s n : ℕ) → s < n → is_socket (socket_at s) n ≡ true
is-socket s n h = holds-both (le-leb 1 (s + 1) (omega arith)) (le-leb (s + 1) n (omega arith))
