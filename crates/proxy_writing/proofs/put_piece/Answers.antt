use Prim.Native.Nat.{◌-◌, ◌*◌, ◌≤◌, min}
use lib.ListN.{length, set}
use mathlib.Core.Path.{◌≡◌, sym, ap, ◌∙◌}
use mathlib.Core.Bool.{true}
use Rattle.octets.specs.Parts.{copied}
use Rattle.octets.specs.Writing.{output_after}
use Rattle.proxy.specs.Pieces.{first_octet, piece_octets}
use native.Mathlib.Omega.{arith}
use Rattle.octets.proofs.Writing.{written-fits, output-fits, output-short}
use Rattle.proxy_writing.proofs.Laws.{piece-within, piece-long, piece-part, octet-copied}
use Rattle.proxy_writing.proofs.put_piece.Goals as goal
use Rattle.std.specs.Prelude.{Ok}

pub overflow_mul-from : goal.overflow_mul-from
overflow_mul-from c =
    let a = c.args in
    omega (arith, piece-within a.size a.kind (length a.message.now) a.index c.requires, c.requires.cut.few-octets)

pub overflow_sub-message : goal.overflow_sub-message
overflow_sub-message c =
    let a = c.args in
    omega (arith, piece-within a.size a.kind (length a.message.now) a.index c.requires)

pub returns-then-output-count : goal.returns-then-output-count
returns-then-output-count c =
    let a = c.args in
    output-short _ _ (omega (arith, c.min-count.ensures, c.if-output-count.true, piece-long a.size a.kind a.message.now a.index))

pub returns : goal.returns
returns c =
    let a = c.args in
    let m = a.message.now in
    let from = (a.size - 1) * a.index in
    let count = min (a.size - 1) (length m - from) in
    let d = piece_octets a.size a.kind m a.index in
    let within = piece-within a.size a.kind (length m) a.index c.requires in
    let taken = c.min-count.ensures in
    let long = piece-long a.size a.kind m a.index in
    let room : length d ≤ length a.output.now = omega arith in
    let copied-after : copied (set a.output.now 0 (first_octet a.size a.kind (length m) a.index)) 1 m from count ≡ output_after true d a.output.now =
    octet-copied a.output.now (first_octet a.size a.kind (length m) a.index) m from count (omega arith) (omega arith)
    ∙ sym (output-fits d a.output.now room ∙ rw (piece-part a.size a.kind m a.index)) in (
      ap Ok (omega arith) ∙ sym (written-fits d a.output.now room),
      rw (c.copy.ensures.1, taken, c.first_octet.ensures) copied-after,
    )
