use mathlib.Core.Bool.{Bool, not}
use native.Mathlib.Omega.{arith}
use mathlib.Core.Path.{◌≡◌, refl, sym, ap, ◌∙◌}
use Rattle.std.specs.Prelude.{Result, Ok, Err, is_ok}
use Rattle.proxy.specs.Transfers.{is_refused, buffer_after}
use Rattle.proxy.specs.declared.PieceAnswer.{PieceAnswer}
use Rattle.proxy.specs.declared.PieceRefusal.{PieceRefusal}
use Rattle.proxy.specs.declared.PieceRead.{PieceRead}
use Rattle.proxy_reading.proofs.Laws.{good-fits, buffer-added}
use Rattle.proxy_reading.proofs.read_piece.Goals as goal

refused-not-ok : (a : Result PieceAnswer PieceRefusal) → is_refused a ≡ not (is_ok a)
refused-not-ok (Ok x) = refl
refused-not-ok (Err r) = refl

-- whether a piece was refused, by what judged it
judged : {r x : PieceRead} {t u : Bool} → r ≡ x → t ≡ is_ok r.answer → t ≡ u → is_refused x.answer ≡ not u
judged {r} {x} e f h = refused-not-ok x.answer ∙ ap not (sym (ap (λ (y : PieceRead). is_ok y.answer) e) ∙ sym f ∙ h)

pub overflow_sub-piece : goal.overflow_sub-piece
overflow_sub-piece c =
    let a = c.args in
    omega (arith, (good-fits a.transfer a.buffer.now a.piece.now (judged c.judge-read.ensures c.is_ok.ensures.value c.if-is_ok.true)).some-data)

pub returns-then-is_ok : goal.returns-then-is_ok
returns-then-is_ok c =
    let a = c.args in (
      c.judge-read.ensures,
      rw (c.copy.ensures.1, c.held_length-held.ensures.0)
          (buffer-added a.transfer a.buffer.now a.piece.now (judged c.judge-read.ensures c.is_ok.ensures.value c.if-is_ok.true)),
    )

pub returns-else-is_ok : goal.returns-else-is_ok
unfolding buffer_after
returns-else-is_ok c = (c.judge-read.ensures, rw (judged c.judge-read.ensures c.is_ok.ensures.value c.if-is_ok.false))
