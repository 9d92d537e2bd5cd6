use lib.Seq.{length-take-le}
use mathlib.Core.Path.{sym}
use native.Mathlib.Omega.{arith}
use Rattle.octets.specs.Cut.{piece}
use Rattle.pb_adv.specs.Frame.{segment_octets}
use Rattle.pb_adv_writing.specs.Writing.{segment_frame, header_of}
use Rattle.pb_adv_writing.proofs.put_start.Goals as goal

pub slice_bounds-write_frame-end-2 : goal.slice_bounds-write_frame-end-2
slice_bounds-write_frame-end-2 c =
    let l = c.segment_length-count in
    sym (length-take-le l.result c.args.message.now (omega (arith, l.ensures)))

pub returns : goal.returns
unfolding segment_frame header_of segment_octets piece
returns c =
    rw (c.last_segment.ensures, c.check_octet-check.ensures, c.segment_length-count.ensures) at c.write_frame.ensures
