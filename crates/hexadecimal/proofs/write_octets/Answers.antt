use Prim.Native.Nat.{◌+◌, ◌*◌}
use lib.ListN.{length-set}
use mathlib.Core.Path.{◌∙◌}
use native.Mathlib.Omega.{arith}
use Rattle.hexadecimal.proofs.Laws.{length-octets, digit_at, octets-turn, written}
use Rattle.hexadecimal.specs.Hex.{octets_of}
use Rattle.hexadecimal.proofs.write_octets.Goals as goal

pub octet_of-requires : goal.octet_of-requires
octet_of-requires c =
    let l = c.loop-j in
    let t = c.args.text.now in
    (digit_at t (2 * l.j) c.requires.0 (omega arith), digit_at t (2 * l.j + 1) c.requires.0 (omega arith))

pub loop-j-preserved : goal.loop-j-preserved
loop-j-preserved c =
    let l = c.loop-j in (
      simp length-set l.invariant.0,
      rw (l.invariant.1, c.octet_of.ensures) (octets-turn c.args.output.now c.args.text.now l.j (omega arith) c.requires.1),
    )

pub returns : goal.returns
returns c =
    let l = c.loop-j in
    let a = c.args in
    l.invariant.1 ∙ written a.output.now 0 (octets_of a.text.now) l.j (omega (arith, length-octets a.text.now))
