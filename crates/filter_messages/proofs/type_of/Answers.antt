use Rattle.std.proofs.lemmas.Result.{err_from_is_err_and}
use borrow.Author.Tests.{eq-eqb, ne_eqb}
use lib.Dec.{eqb}
use lib.ListN.{length}
use mathlib.Core.Bool.{true}
use mathlib.Core.Path.{◌≡◌, refl, sym, ◌∙◌}
use native.Mathlib.Omega.{arith}
use Prim.Native.Nat.{◌-◌}
use Rattle.filter_messages.specs.Messages.{type_of}
use Rattle.filter_messages.proofs.type_of.Goals as goal

pub returns-in_default : goal.returns-in_default
unfolding type_of
returns-in_default c = rw (ne_eqb (length c.args.message.now - 1) 1 (λ e. absurd (omega (arith, c.in_default.len_below, e)))) refl

pub returns-in_default-2 : goal.returns-in_default-2
unfolding type_of
returns-in_default-2 c = rw (ne_eqb (length c.args.message.now - 1) 1 (λ e. absurd (omega (arith, c.in_default.len_at_least, e)))) refl

pub returns-in_err-kind : goal.returns-in_err-kind
unfolding type_of
returns-in_err-kind c =
    let p = err_from_is_err_and c.from_residual.result c.from_residual.ensures.1 in
    let two : eqb (length c.args.message.now - 1) 1 ≡ true = eq-eqb _ _ (omega arith) in
    rw (p.1, p.2, two, sym c.try_from.ensures ∙ c.in_err-kind.was) refl

pub returns : goal.returns
unfolding type_of
returns c =
    let two : eqb (length c.args.message.now - 1) 1 ≡ true = eq-eqb _ _ (omega arith) in
    rw (two, sym c.try_from.ensures ∙ c.in_ok-kind.was) refl
