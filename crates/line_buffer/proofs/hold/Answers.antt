use Prim.Native.Nat.{◌-◌}
use lib.ListN.{length}
use mathlib.Core.Path.{◌∙◌}
use native.Mathlib.Omega.{arith}
use Rattle.line_buffer.proofs.Laws.{hold-full, hold-some}
use Rattle.line_buffer.proofs.hold.Goals as goal

pub returns-then-line-held : goal.returns-then-line-held
returns-then-line-held c =
    let a = c.args in
    let h = hold-full a.line.now a.held a.piece.now (omega arith) in
    (h.0, h.1, omega arith)

pub returns-then-piece-room : goal.returns-then-piece-room
returns-then-piece-room c =
    let a = c.args in
    let h = hold-some a.line.now a.held a.piece.now (length a.piece.now) (omega arith) (omega arith) in
    (h.0, c.copy.ensures.1 ∙ h.1, omega arith)

pub returns : goal.returns
returns c =
    let a = c.args in
    let h = hold-some a.line.now a.held a.piece.now (length a.line.now - a.held) (omega arith) (omega arith) in
    (h.0, c.copy-2.ensures.1 ∙ h.1, omega arith)
