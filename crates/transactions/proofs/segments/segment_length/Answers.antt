use native.Mathlib.Omega.{arith}
use Rattle.octets.proofs.Cut.{place_up}
use Rattle.transactions.proofs.segments.segment_length.Goals as goal

pub overflow_sub-result-2 : goal.overflow_sub-result-2
overflow_sub-result-2 c = omega (arith, c.segment_place-place.ensures, place_up 20 23 c.args.index)
