-- Places of the entries: one taken out, and those after it moved down by one.
use Prim.Native.Nat.{ℕ, suc, ◌+◌, ◌-◌, ◌≤◌}
use native.Mathlib.Omega.{arith}
use mathlib.Core.List.{List, [], ◌∷◌, ◌++◌}
use mathlib.Core.Path.{◌≡◌}
use lib.ListN.{length, take, drop, set, length-append, length-drop, drop_of_length-le}
use lib.Seq.{paste, drop-cons, set_at, take_all, length-take-le}
use Rattle.filter_entries.specs.Entries.{unused}

pub all_moved : (l : List ℕ) (at : ℕ) → length l ≡ 16 → at ≤ 15
    → set (paste l at (drop (suc at) l) (15 - at)) 15 unused ≡ take at l ++ drop (suc at) l ++ (unused ∷ [])
all_moved l at n h =
    let last : at + (15 - at) ≡ 15 = omega arith in
    let s : length (drop (suc at) l) ≡ 15 - at = omega (arith, length-drop (suc at) l) in
    rw (last, drop-cons l 15 unused (omega arith), take_all (15 - at) (drop (suc at) l) (omega arith), drop_of_length-le l {i = 16} (omega arith))
    (set_at (take at l ++ drop (suc at) l) _ _ unused 15
    (omega (arith, length-append (take at l) (drop (suc at) l), length-take-le at l (omega arith))))
