use native.Mathlib.Omega.{arith}
use Rattle.octets.specs.Parts.{write}
use Rattle.octets.proofs.Loops.{left_here}
use Rattle.frame_writing.proofs.put_head.Goals as goal

pub returns : goal.returns
unfolding write
returns c =
    let o = c.args.output.now in
    rw (c.copy_from_slice.ensures.after, c.four_octets.ensures, left_here o 4 0 (omega arith), left_here o 5 0 (omega arith))
