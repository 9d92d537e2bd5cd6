-- The n + 1 low bits are ones (`all-marked-ones`); bit 64 and on are not set (`not-all-marked`).
use Prim.Native.Nat.{◌+◌, ◌%◌, ◌^◌}
use lib.Bits.{and_mask}
use lib.Pow.{pow_pos}
use mathlib.Core.Path.{◌≡◌, sym}
use native.Mathlib.Nat.{mod-eq_of_lt}
use native.Mathlib.Numerals.{add-one}
use native.Mathlib.Omega.{arith}
use Rattle.link_fields.proofs.Bits.{one_shifted, all-marked-ones, not-all-marked}
use Rattle.link_fields.proofs.all_marked.Goals as goal

pub overflow_sub-ones : goal.overflow_sub-ones
overflow_sub-ones c =
    let n = c.args.n in
    rw (one_shifted (n + 1) (omega arith)) (pow_pos (n + 1))

pub returns-then-n-lt63 : goal.returns-then-n-lt63
returns-then-n-lt63 c =
    let n = c.args.n in
    let w = c.args.marks in
    rw (one_shifted (n + 1) (omega arith), and_mask w (n + 1), add-one n, all-marked-ones n w)

pub returns-then-n-eq63 : goal.returns-then-n-eq63
returns-then-n-eq63 c =
    let w = c.args.marks in
    let f : w % 2 ^ 64 ≡ w = mod-eq_of_lt (omega arith) in
    rw (c.if-n-eq63.true, all-marked-ones 63 w, f)

pub returns : goal.returns
returns c = sym (not-all-marked c.args.n c.args.marks (omega arith) (omega arith))
