use native.Mathlib.Omega.{arith}
use mathlib.Core.Path.{refl}
use Rattle.line_buffer.proofs.Promises.{holds-piece}
use Rattle.lines.specs.Streams.{piece_in}
use Rattle.segment_lines.proofs.read_on.Goals as goal

pub returns : goal.returns
returns g c =
    let a = c.args in
    let n = c.next_piece-streams in
    let e = c.hold.ensures in
    let held = holds-piece a.line.now a.progress.held (piece_in n.result n.new.input) (omega arith) in
    rw (e.0, e.1)
    record {
      found = n.ensures.0;
      room = held.same_length;
      few = omega (arith, held.same_length, held.few-held);
      text = held.front;
      number = refl;
    }
