-- Laws of numbers in turn, of SegN and of the places of segments, and of sockets in range.
use Prim.Native.Nat.{ℕ, ◌+◌, ◌*◌, ◌/◌, ◌%◌, ◌≤◌, ◌<◌}
use native.Mathlib.Omega.{arith}
use mathlib.Core.Bool.{true}
use mathlib.Core.List.{List}
use mathlib.Core.Path.{◌≡◌, refl, ap}
use lib.ListN.{length}
use Rattle.octets.proofs.Cut.{place_up, last-enough, last-least, piece-length, piece-begins}
use borrow.Author.Tests.{leb-true}
use Rattle.octets.proofs.Tests.{both_hold}
use Rattle.transactions.specs.Numbers.{is_socket}
use Rattle.transactions.specs.declared.Socket.{Socket}
use Rattle.transactions.specs.Segments.{seg_n, segment_place, segment_length, segment}
use Rattle.transactions.specs.Promises.{number, NumbersInTurn, LeastSegN}

pub numbers-in-turn : NumbersInTurn
numbers-in-turn = record {
  next = λ n h d. let e : 128 * (n / 128) + (n + 1) % 128 ≡ n + 1 = omega arith in ap number e;
  ours-again = refl;
  device-again = refl;
}

pub seg_n-enough : (n : ℕ) → n ≤ 20 + 23 * seg_n n
seg_n-enough n = last-enough 20 23 n (omega arith)

pub seg_n-least : (n k : ℕ) → n ≤ 20 + 23 * k → seg_n n ≤ k
seg_n-least n k h = last-least 20 23 n k (omega arith) h

pub least-seg_n : LeastSegN
least-seg_n = record { enough = seg_n-enough; least = seg_n-least }

-- at most 63 for a message that is not too long
pub seg_n-small : (n : ℕ) → n ≤ 1469 → seg_n n ≤ 63
seg_n-small n h = omega arith

-- each segment begins before the end of the message
pub segment-begins : (n k : ℕ) → 0 < n → k ≤ seg_n n → segment_place k < n
segment-begins n k some h = piece-begins 20 23 n k (omega arith) some h

pub segment-long : (m : List ℕ) (k : ℕ) → length (segment m k) ≡ segment_length (length m) k
segment-long m k = piece-length segment_place refl (place_up 20 23) (length m) m k (omega arith)

-- the number of one of n sockets
pub socket-out : (s : Socket) (n : ℕ) → is_socket s n ≡ true → (1 ≤ s.0) × (s.0 ≤ n)
socket-out s n e = let p = both_hold e in (leb-true 1 s.0 p.0, leb-true s.0 n p.1)
