-- The frame stands whole at the start of the 29 octets (`counted`, `front`); `line-put` is its digits and the newline.
use Prim.Native.Nat.{ℕ, ◌+◌, ◌*◌, ◌<◌}
use lib.ListN.{length, take}
use mathlib.Core.List.{List}
use mathlib.Core.Path.{◌≡◌, sym, ◌∙◌}
use native.Mathlib.Omega.{arith}
use Rattle.hex_lines.proofs.Laws.{line-long, line-put, frame_small, frame-some, frame-count, frame-front}
use Rattle.hex_lines.specs.Steps.{segment_line}
use Rattle.pb_adv_writing.specs.Writing.{segment_frame}
use Rattle.hex_lines.proofs.put_line.Goals as goal
use Rattle.hex_lines.proofs.put_line.Goals.{In-Ok}

abbrev frame_of : In-Ok → List ℕ
frame_of c = segment_frame 1 c.args.number c.args.message.now c.args.index

counted : (c : In-Ok) → c.in-Ok.n ≡ length (frame_of c)
counted c = frame-count c.args.number c.requires.segment (sym c.write_segment.ensures.0 ∙ c.in-Ok.is)

front : (c : In-Ok) → take c.in-Ok.n c.write_segment.new.output ≡ frame_of c
front c = rw (c.write_segment.ensures.1, counted c) (frame-front c.args.number c.requires.segment)

-- where the newline stands: within the output, at the end of the line
ends : (c : In-Ok) → let n = c.in-Ok.n in
    let a = c.args in
    (a.at + 2 * n < length a.output.now) × (length (segment_line a.number a.message.now a.index) ≡ 2 * n + 1)
ends c =
    let long = line-long c.args.number c.args.message.now c.args.index in
    (omega (arith, counted c, c.requires.room), omega (arith, counted c))

pub returns-in_default : goal.returns-in_default
returns-in_default c = absurd (frame-some c.args.number c.requires.segment (sym c.write_segment.ensures.0 ∙ c.in_default.is))

pub slice_bounds-frame-end : goal.slice_bounds-frame-end
slice_bounds-frame-end c =
    let a = c.args in
    omega (arith, counted (goal.at.slice_bounds-frame-end c).In-Ok, frame_small a.number a.message.now a.index, c.write_segment.auto)

pub slice_bounds-encode-end : goal.slice_bounds-encode-end
slice_bounds-encode-end c = let s = (goal.at.slice_bounds-encode-end c).In-Ok in rw (front s) (counted s)

pub overflow_mul-end : goal.overflow_mul-end
overflow_mul-end c = omega (arith, ends (goal.at.overflow_mul-end c).In-Ok)

pub overflow_add-end : goal.overflow_add-end
overflow_add-end c = omega (arith, ends (goal.at.overflow_add-end c).In-Ok)

pub bounds-output-end : goal.bounds-output-end
bounds-output-end c = omega (arith, ends (goal.at.bounds-output-end c).In-Ok, c.encode.auto)

pub overflow_add-result : goal.overflow_add-result
overflow_add-result c = omega (arith, ends (goal.at.overflow_add-result c).In-Ok)

pub returns : goal.returns
unfolding segment_line
returns c =
    let s = (goal.at.returns c).In-Ok in (
      omega (arith, ends s),
      rw (c.encode.ensures.1, front s, counted s) (line-put (frame_of s) c.args.output.now c.args.at c.requires.room),
    )
