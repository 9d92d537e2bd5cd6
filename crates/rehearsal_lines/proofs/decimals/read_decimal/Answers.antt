use borrow.Author.Tests.{eqb-true}
use native.Mathlib.Omega.{arith}
use mathlib.Core.Bool.{true}
use mathlib.Core.Path.{◌≡◌, sym, ◌∙◌}
use lib.ListN.{get_or}
use Rattle.rehearsal_lines.specs.Lines.{is_digit}
use Rattle.rehearsal_lines.proofs.Numbers.{digit-so, no-digits, wrong-digit, next-too-much, all_read}
use Rattle.rehearsal_lines.proofs.decimals.read_decimal.Goals as goal
use Rattle.rehearsal_lines.proofs.decimals.read_decimal.Goals.{Else-not-is_digit}

digit : (c : Else-not-is_digit) → is_digit (get_or c.args.text.now c.loop-character.character-index 0) ≡ true
digit c = sym c.is_digit.ensures ∙ c.if-not-is_digit.false

pub returns-then-is_empty : goal.returns-then-is_empty
returns-then-is_empty c =
    let none = eqb-true _ _ (sym c.is_empty.ensures ∙ c.if-is_empty.true) in
    no-digits c.args.text.now _ (omega arith)

pub returns-then-not-is_digit : goal.returns-then-not-is_digit
returns-then-not-is_digit c =
    let t = c.args.text.now in
    let l = c.loop-character in
    wrong-digit t l.value l.character-index l.invariant.2 (omega arith) _ (sym c.is_digit.ensures ∙ c.if-not-is_digit.true)

pub overflow_sub-next : goal.overflow_sub-next
overflow_sub-next c = omega (arith, digit-so _ (digit (goal.at.overflow_sub-next c).Else-not-is_digit))

pub returns-then-most-next : goal.returns-then-most-next
returns-then-most-next c =
    let a = c.args in
    let l = c.loop-character in
    next-too-much a.text.now l.value l.character-index l.invariant.2 (omega arith) a.most (omega arith)

pub returns : goal.returns
returns c =
    let a = c.args in
    let l = c.loop-character in
    all_read a.text.now l.value l.character-index l.invariant.2 a.most (omega arith) (omega arith) (omega arith)
