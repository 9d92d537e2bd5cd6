use Prim.Native.Nat.{◌+◌, ◌*◌}
use native.Mathlib.Omega.{arith}
use mathlib.Core.Path.{ap, ◌∙◌}
use lib.ListN.{length, take}
use Rattle.line_fields.proofs.Laws.{hexadecimal-shown}
use Rattle.line_fields.proofs.hexadecimal_text.Goals as goal

pub returns : goal.returns
returns c =
    let octets = c.args.octets.now in
    (ap (take (2 + 2 * length octets)) c.encode.ensures.1 ∙ hexadecimal-shown octets c.requires, omega (arith, c.requires))
