-- The lines are counted (`specs/Counting.antt`).
use Prim.Native.Nat.{ℕ, ◌+◌, ◌<◌}
use native.Mathlib.Omega.{arith}
use mathlib.Core.List.{List, [], ◌∷◌}
use mathlib.Core.Path.{◌≡◌, ◌∙◌}
use lib.ListN.{length}
use borrow.Author.Tests.{lt-ltb}
use Rattle.import_log.specs.Logs.{next_number, Import, after, after_all, at_first}
use Rattle.import_log.specs.Counting.{LinesCounted}

next-is : (n : ℕ) → n < 18446744073709551615 → next_number n ≡ n + 1
next-is n h = rw (lt-ltb n 18446744073709551615 h)

counts : (m : Import) (lines : List (List ℕ)) → m.log.lines + length lines < 18446744073709551615
    → (after_all m lines).log.lines ≡ m.log.lines + length lines
counts m [] h = omega arith
counts m (line ∷ lines) h =
    let step = next-is m.log.lines (omega arith) in
    counts (after m line) lines (rw step (omega arith)) ∙ rw step (omega arith)

pub lines-counted : LinesCounted
lines-counted lines h =
    let n = counts at_first lines (omega arith) in
    (omega (arith, n), next-is (after_all at_first lines).log.lines (omega (arith, n)) ∙ omega (arith, n))
