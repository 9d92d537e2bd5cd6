-- Two parts, compared by their first octets and by what follows those: with this a comparison that is cut so is proved where it is right, and the wrong
-- program `same_part_first`, which is cut so too, is refused for what it compares.
use Prim.Native.Nat.{ℕ, zero, suc, ◌+◌, ◌-◌, ◌≤◌}
use native.Mathlib.Numerals.{add-one}
use native.Mathlib.Omega.{arith}
use mathlib.Core.Bool.{◌&&◌}
use mathlib.Core.List.{List}
use mathlib.Core.Logic.{◌≢◌}
use mathlib.Core.Path.{◌≡◌, refl}
use lib.Dec.{eqb}
use lib.ListN.{length, take, drop, get_or}
use lib.Seq.{drop-cons}
use Rattle.octets.specs.Parts.{part, same}

pub same_by_first : (l m : List ℕ) (at from count : ℕ) → count ≢ 0 → at + count ≤ length l → from + count ≤ length m
    → same (part l at count) (part m from count)
    ≡ (eqb (get_or l at 0) (get_or m from 0) && same (take (at + count - (at + 1)) (drop (at + 1) l)) (take (from + count - (from + 1)) (drop (from + 1) m)))
same_by_first l m at from zero h p q = absurd (h refl)
same_by_first l m at from (suc n) h p q =
    let a : at + suc n - (at + 1) ≡ n = omega arith in
    let b : from + suc n - (from + 1) ≡ n = omega arith in
    rw (a, b, add-one at, add-one from, drop-cons l at 0 (omega arith), drop-cons m from 0 (omega arith))
