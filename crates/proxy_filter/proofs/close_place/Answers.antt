use borrow.Author.Rules.{rules}
use lib.ListN.{length, set}
use mathlib.Core.List.{List}
use mathlib.Core.Path.{◌≡◌, ap, ◌∙◌}
use native.Mathlib.Omega.{arith}
use Prim.Native.Nat.{ℕ, suc, ◌+◌, ◌-◌}
use Rattle.proxy_filter.proofs.Places.{all_moved}
use Rattle.proxy_filter.proofs.close_place.Goals as goal

pub returns : goal.returns
returns c =
    let a = c.args in
    let n : length a.entries ≡ 16 = search rules in
    let moved : length a.entries - (a.at + 1) ≡ 15 - a.at = omega arith in
    let next : a.at + 1 ≡ suc a.at = omega arith in
    ap (λ (l : List ℕ). set l 15 0) c.copy_within.ensures.after ∙ rw (moved, next) (all_moved a.entries a.at n (omega arith))
