use native.Mathlib.Omega.{arith}
use borrow.Author.Rules.{rules}
use lib.ListN.{length}
use lib.Seq.{length-take-le}
use mathlib.Core.Path.{◌≡◌, refl, sym, ◌∙◌}
use Rattle.hex_lines.specs.Lines.{line_text}
use Rattle.lines.proofs.Laws.{text-waits}
use Rattle.segment_lines.specs.Turns.{held_text}
use Rattle.segment_lines.proofs.Laws.{text-never, text-counts, text-output, text-room}
use Rattle.segment_lines.proofs.end_line.Goals as goal

pub slice_bounds-write_line-end : goal.slice_bounds-write_line-end
slice_bounds-write_line-end g c =
    let a = c.args in
    sym (length-take-le a.progress.held a.line.now (omega arith))

pub returns-in_default : goal.returns-in_default
returns-in_default g c =
    let a = c.args in
    let sized : length a.output.now ≡ 65536 = search rules in
    let room = c.make_room-streams in
    let w = rw (sym sized) at c.write_line-answer.ensures in
    absurd (text-never a.progress.number (held_text a.progress a.line.now) a.output.now room.result.waiting (room.ensures.2 (omega arith))
    (sym w.0 ∙ c.in_default.is))

pub returns : goal.returns
returns g c =
    let a = c.args in
    let sized : length a.output.now ≡ 65536 = search rules in
    let room = c.make_room-streams in
    let w = rw (sym sized) at c.write_line-answer.ensures in
    let held = held_text a.progress a.line.now in
    let at = room.result.waiting in
    let fits = room.ensures.2 (omega arith) in
    let counts = text-counts a.progress.number held a.output.now at fits (sym w.0 ∙ c.in-Ok.is) in
    let text = line_text a.progress.number held in
    rw (sym sized, w.1, text-output a.progress.number held a.output.now at fits)
    record {
      text = text-waits a.progress.streams room.result c.add_waiting.result a.output.now 3776 text room.ensures.0
          (text-room a.progress.number held a.output.now at fits)
          (rw (sym sized, w.1, text-output a.progress.number held a.output.now at fits, counts.0) at c.add_waiting.ensures);
      none = refl;
      next = counts.1;
    }
