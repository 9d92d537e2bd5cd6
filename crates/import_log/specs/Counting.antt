-- The lines are counted: the number that a line's row shows is its place in the log, and the `end` row's is how many lines there were. The proof is
-- `proofs/Counting.antt`.
use Rattle.std.specs.Prelude.{ℕ, ◌+◌, ◌<◌, List, ◌≡◌, length}
use Rattle.import_log.specs.Logs.{after_all, at_first, number_in}

-- "Lines count from 1.", up to the last number that there is
abbrev pub LinesCounted : Type 0
LinesCounted =
    (lines : List (List ℕ)) → length lines < 18446744073709551615
    → ((after_all at_first lines).log.lines ≡ length lines) × (number_in (after_all at_first lines) ≡ length lines + 1)
