use Prim.Native.Nat.{◌+◌}
use lib.ListN.{get_or-eq_default}
use native.Mathlib.Omega.{arith}
use Rattle.octets.proofs.read32.Goals as goal

pub returns-else-at-octets : goal.returns-else-at-octets
returns-else-at-octets c =
    let s = c.args.octets.now in
    let at = c.args.at in
    rw (get_or-eq_default s 0 {n = at} (omega arith), get_or-eq_default s 0 {n = at + 1} (omega arith), get_or-eq_default s 0 {n = at + 2} (omega arith), get_or-eq_default s 0 {n = at + 2 + 1} (omega arith))
