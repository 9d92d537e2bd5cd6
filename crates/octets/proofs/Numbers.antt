-- A number below 2 ^ 32 in four octets.
use Prim.Native.Nat.{ℕ, zero, suc, ◌<◌}
use native.Mathlib.Omega.{arith}
use mathlib.Core.Path.{◌≡◌}
use Rattle.octets.specs.Numbers.{Octets, big32, octets32}

pub four-octets : (n : ℕ) → n < 4294967296 → Octets (octets32 n)
four-octets n h zero = omega arith
four-octets n h (suc zero) = omega arith
four-octets n h (suc (suc zero)) = omega arith
four-octets n h (suc (suc (suc zero))) = omega arith
four-octets n h (suc (suc (suc (suc i)))) = omega arith

pub number-back : (n : ℕ) → big32 (octets32 n) 0 ≡ n
number-back n = omega arith
