use lib.ListN.{length}
use native.Mathlib.Nat.{add-sub_cancel_left}
use native.Mathlib.Omega.{arith}
use Rattle.octets.specs.Cut.{piece}
use Rattle.transactions.proofs.Laws.{segment-begins}
use Rattle.pb_adv_writing.proofs.Laws.{continuation-frame}
use Rattle.pb_adv_writing.proofs.put_continuation.Goals as goal

pub slice_bounds-write_frame-end-2 : goal.slice_bounds-write_frame-end-2
slice_bounds-write_frame-end-2 c =
    let a = c.args in
    let asked = c.requires.1 in
    omega (arith, c.segment_length.ensures, c.segment_place-from.ensures, segment-begins (length a.message.now) a.index asked.some-octets asked.index)

pub returns : goal.returns
unfolding piece
returns c =
    let a = c.args in
    rw (continuation-frame a.id a.number a.message.now a.index c.requires.0)
    (rw (add-sub_cancel_left, c.segment_length.ensures, c.segment_place-from.ensures) at c.write_frame.ensures)
