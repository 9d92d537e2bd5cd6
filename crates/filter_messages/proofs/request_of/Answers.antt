use lib.Dec.{eqb}
use lib.ListN.{length}
use mathlib.Core.Bool.{true, false}
use mathlib.Core.Path.{◌≡◌, refl, sym, ◌∙◌}
use Rattle.octets.proofs.Tests.{tests}
use Rattle.filter_messages.specs.Messages.{request_of}
use Rattle.filter_messages.proofs.request_of.Goals as goal

pub returns-then-is_empty : goal.returns-then-is_empty
unfolding request_of
returns-then-is_empty c = let e : eqb (length c.args.message.now) 0 ≡ true = sym c.is_empty.ensures ∙ c.if-is_empty.true in rw e refl

pub returns-in-0 : goal.returns-in-0
unfolding request_of
returns-in-0 c = let e : eqb (length c.args.message.now) 0 ≡ false = sym c.is_empty.ensures ∙ c.if-is_empty.false in rw (e, c.in-0.is) c.type_of.ensures

pub returns-in-1 : goal.returns-in-1
unfolding request_of
returns-in-1 c = let e : eqb (length c.args.message.now) 0 ≡ false = sym c.is_empty.ensures ∙ c.if-is_empty.false in rw (e, c.in-1.is) c.change_of.ensures

pub returns-in-2 : goal.returns-in-2
unfolding request_of
returns-in-2 c = let e : eqb (length c.args.message.now) 0 ≡ false = sym c.is_empty.ensures ∙ c.if-is_empty.false in rw (e, c.in-2.is) c.change_of-in-2.ensures

pub returns-in_default : goal.returns-in_default
unfolding request_of
returns-in_default c = let e : eqb (length c.args.message.now) 0 ≡ false = sym c.is_empty.ensures ∙ c.if-is_empty.false in search (tests, e)
