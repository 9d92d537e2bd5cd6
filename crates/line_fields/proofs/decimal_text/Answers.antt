use lib.ListN.{length}
use native.Mathlib.Omega.{arith}
use mathlib.Core.Path.{ap, ◌∙◌}
use Prim.Native.Nat.{◌^◌, ◌<◌}
use lib.Seq.{length-take-le}
use Rattle.line_fields.proofs.Laws.{decimal-digits, decimal-long}
use Rattle.line_fields.proofs.decimal_text.Goals as goal

pub returns : goal.returns
returns c =
    let v = c.args.value in
    let few : v < 10 ^ 20 = omega (arith, c.ranges.value) in
    let shown = c.decimal-length.ensures.digits ∙ decimal-digits v _ c.decimal-length.ensures.len in
    (shown, omega (arith, ap length shown, length-take-le c.decimal-length.result c.decimal-length.new.out (omega (arith, c.decimal-length.ensures.in_bounds)), decimal-long 20 v (omega arith) few))
