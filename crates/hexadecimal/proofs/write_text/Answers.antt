use Prim.Native.Nat.{◌*◌}
use lib.ListN.{length-set}
use mathlib.Core.Path.{◌∙◌}
use native.Mathlib.Omega.{arith}
use Rattle.hexadecimal.proofs.Laws.{length-text, text-turn, written}
use Rattle.hexadecimal.specs.Hex.{text_of}
use Rattle.hexadecimal.proofs.write_text.Goals as goal

pub loop-j-preserved : goal.loop-j-preserved
loop-j-preserved c =
    let l = c.loop-j in (
      simp length-set l.invariant.0,
      rw (l.invariant.1, c.digit.ensures, c.digit-in-loop-j.ensures)
          (text-turn c.args.output.now c.args.octets.now c.args.at l.j (omega arith) c.requires),
    )

pub returns : goal.returns
returns c =
    let l = c.loop-j in
    let a = c.args in
    l.invariant.1 ∙ written a.output.now a.at (text_of a.octets.now) (2 * l.j) (omega (arith, length-text a.octets.now))
