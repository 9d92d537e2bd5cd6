-- The promises of `specs/Promises.antt`.
use Prim.Native.Nat.{ℕ, ◌+◌, ◌*◌, ◌/◌, ◌%◌}
use native.Mathlib.Omega.{arith}
use mathlib.Core.Path.{◌≡◌, refl}
use lib.Dec.{leb}
use borrow.Author.Tests.{leb-true, leb-false, lt-ltb, le-ltb}
use Rattle.octets.proofs.Tests.{cases}
use Rattle.lossy_channel.specs.Channels.{drawn_after}
use Rattle.lossy_channel.specs.Promises.{IsDrawn, NeverZero, Extremes, Fates, Published}

-- no number between 0 and the modulus is the difference of two of its multiples
no-multiple : (n a b : ℕ) → IsDrawn n → n + 2147483647 * a ≡ 2147483647 * b → ⊥
no-multiple n a b h e = cases (leb b a) (λ q. omega (arith, leb-true b a q)) (λ q. omega (arith, leb-false b a q))

-- the multiplier has an inverse, since 48271 * 1899818559 is 1 + 42704 * 2147483647; so only a multiple of the modulus leads to one
after-drawn : (n : ℕ) → IsDrawn n → IsDrawn (drawn_after n)
after-drawn n h =
    cases (leb 1 (n * 48271 % 2147483647))
    (λ q. (omega (arith, leb-true 1 (n * 48271 % 2147483647) q), omega arith))
    (λ q. absurd (no-multiple n (42704 * n) (1899818559 * (n * 48271 / 2147483647)) h (omega (arith, leb-false 1 (n * 48271 % 2147483647) q))))

pub never-zero : NeverZero
never-zero = record {
  new = λ seed lost repeated. (omega arith, omega arith);
  draw = λ c h. after-drawn c.number h;
  carry = λ c h. after-drawn (drawn_after c.number) (after-drawn c.number h);
}

ruleset tests = (arith, lt-ltb, le-ltb)

pub fates : Fates
fates c = record { lost = grind tests; twice = grind tests; once = grind tests; after = refl }

pub extremes : Extremes
extremes = record {
  loses-none = λ c. grind tests;
  loses-all = λ c. grind tests;
  repeats-none = λ c. grind tests;
  repeats-all = λ c. grind tests;
}

pub published : Published
published = record { first = refl; second = refl }
