-- The promise of `specs/Promises.antt`, by the length of a line.
use Prim.Native.Nat.{ℕ, ◌<◌}
use native.Mathlib.Omega.{arith}
use mathlib.Core.Bool.{false}
use mathlib.Core.List.{List}
use mathlib.Core.Path.{◌≡◌, refl}
use lib.Dec.{leb}
use lib.ListN.{length, take}
use lib.Seq.{length-take-le, take_all}
use borrow.Author.Tests.{leb-true, leb-false, le-leb, lt-leb}
use Rattle.octets.proofs.Tests.{cases}
use Rattle.script.specs.Script.{is_line, arguments_read, arguments_after}
use Rattle.script.specs.Promises.{FrontDoesTheSame}

-- a line of more than 8,192 characters is none
long-none : (line : List ℕ) → 8192 < length line → is_line line ≡ false
unfolding is_line
long-none line h = rw (le-leb 2 (length line) (omega arith), lt-leb (length line) 8192 h)

pub front-does-the-same : FrontDoesTheSame
unfolding arguments_read arguments_after
front-does-the-same line output =
    cases (leb (length line) 8193)
    (λ e. rw (take_all 8193 line (leb-true (length line) 8193 e)) (refl, refl))
    (λ e. let long = leb-false (length line) 8193 e in
    rw (long-none line (omega arith), long-none (take 8193 line) (omega (arith, length-take-le 8193 line (omega arith)))) (refl, refl))
