use lib.ListN.{take}
use lib.Seq.{take_all}
use native.Mathlib.Omega.{arith}
use lib.Dec.{ltb}
use borrow.Author.Tests.{ltb-true, ltb-false}
use Rattle.octets.proofs.Tests.{cases}
use mathlib.Core.Path.{sym, ap, ◌∙◌}
use Rattle.std.specs.Prelude.{Err}
use Rattle.hexadecimal.proofs.Readings.{read_none}
use Rattle.import_lines.proofs.Laws.{no-frame, held-octets, held-room, held-is-frame, held-no-frame}
use Rattle.import_lines.proofs.steps.read_frame.Goals as goal

pub returns-in-Ok : goal.returns-in-Ok
returns-in-Ok c =
    let a = c.args in
    let n = c.in-Ok.n in
    let k = c.decode.ensures in
    let h = held-octets a.digits.now a.frame.now (sym k.0 ∙ c.in-Ok.is) in
    cases (ltb 0 n)
    (λ e. rw (c.then_some.ensures, e)
    (held-is-frame a.digits.now a.frame.now (λ z. omega (arith, ltb-true 0 n e, h.0 ∙ z)), h.0, ap (take n) k.1 ∙ h.1))
    (λ e. rw (c.then_some.ensures, e) (held-no-frame a.digits.now a.frame.now c.requires (sym h.0 ∙ omega (arith, ltb-false 0 n e))))

pub returns-in-Err-NotHexadecimal : goal.returns-in-Err-NotHexadecimal
returns-in-Err-NotHexadecimal c =
    let a = c.args in
    no-frame a.digits.now (read_none a.digits.now a.frame.now (sym c.decode.ensures.0 ∙ c.in-Err-NotHexadecimal.is ∙ ap Err c.in-Err-NotHexadecimal.field-0-is))

pub returns-in-Err-TooLong : goal.returns-in-Err-TooLong
returns-in-Err-TooLong c =
    let a = c.args in
    let k = c.decode.ensures in
    let h = held-room a.digits.now a.frame.now (sym k.0 ∙ c.in-Err-TooLong.is ∙ ap Err c.in-Err-TooLong.field-0-is) in
    rw h.0 (held-is-frame a.digits.now a.frame.now (rw h.0 (λ e. omega (arith, c.requires, e))), sym c.requires, ap (take 30) (k.1 ∙ h.1) ∙ take_all 30 a.frame.now (omega (arith, c.requires)))
