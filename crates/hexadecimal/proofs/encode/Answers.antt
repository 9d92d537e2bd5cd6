-- The definition's tests have the values that the branches showed; halving the room loses nothing, by `omega`.
use Prim.Native.Nat.{◌≤◌, ◌<◌, ◌-◌, ◌*◌}
use lib.ListN.{length}
use native.Mathlib.Omega.{arith}
use Rattle.hexadecimal.specs.Hex.{encoded_output}
use Rattle.octets.proofs.Tests.{tests}
use Rattle.hexadecimal.proofs.encode.Goals as goal

pub returns-then-output-at : goal.returns-then-output-at
unfolding encoded_output
returns-then-output-at c = search tests

pub returns-then-output-at-2 : goal.returns-then-output-at-2
unfolding encoded_output
returns-then-output-at-2 c =
    let a = c.args in
    let short : length a.output.now - a.at < 2 * length a.octets.now = omega arith in
    search tests

pub returns : goal.returns
unfolding encoded_output
returns c =
    let a = c.args in
    let fits : 2 * length a.octets.now ≤ length a.output.now - a.at = omega arith in
    search (tests, c.write_text.ensures)
