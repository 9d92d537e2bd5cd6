use Prim.Native.Nat.{◌+◌, ◌≤◌}
use lib.ListN.{length, length-append}
use mathlib.Core.List.{[], ◌++◌}
use mathlib.Core.Path.{◌≡◌, sym, ap, ◌∙◌}
use native.Mathlib.Omega.{arith}
use Rattle.octets.proofs.Parts.{copied_next}
use Rattle.octets.proofs.Writing.{written-fits, output-fits, output-short}
use Rattle.pb_adv.specs.Frame.{frame_octets}
use Rattle.frame_writing.proofs.write_frame.Goals.{then-output-lt6-via-then-output-lt6, then-output-lt6-via-else-output-lt6+then-output-fields}
use Rattle.frame_writing.proofs.write_frame.Goals as goal
use Rattle.std.specs.Prelude.{Ok}

pub returns-then-output-lt6 : goal.returns-then-output-lt6
returns-then-output-lt6 c =
    let a = c.args in
    let long = length-append a.fields.now a.octets.now in
    elim c.then-output-lt6.branch [
      | then-output-lt6-via-then-output-lt6 w ↦ output-short _ _ (omega (arith, long, w.if-output-lt6.true))
      | then-output-lt6-via-else-output-lt6+then-output-fields w ↦ output-short _ _
          (omega (arith, long, w.if-output-lt6.false, w.if-output-fields.true))
    ]

pub returns-then-output-at : goal.returns-then-output-at
returns-then-output-at c =
    let a = c.args in
    output-short _ _ (omega (arith, length-append a.fields.now a.octets.now))

pub returns : goal.returns
returns c =
    let a = c.args in
    let head = frame_octets a.id a.number.0 a.kind [] in
    let x = a.fields.now in
    let y = a.octets.now in
    let out = a.output.now in
    let n = length-append x y in
    let fits : 6 + length x + length y ≤ length out = omega arith in
    let long : length (frame_octets a.id a.number.0 a.kind (x ++ y)) ≡ 6 + length x + length y = omega arith in (
      ap Ok (sym long) ∙ sym (written-fits _ out (omega arith)),
      c.copy-2.ensures.1
          ∙ rw (c.copy.ensures.1, c.put_head.ensures)
          (rw (copied_next out 0 head x 6 (omega arith) (omega arith), copied_next out 0 (head ++ x) y (6 + length x) (omega arith) (omega arith))
          (sym (output-fits (frame_octets a.id a.number.0 a.kind (x ++ y)) out (omega arith)))),
    )
