use Rattle.std.proofs.Common.{leb, refl, rules}
use Rattle.std.proofs.lemmas.List.Recursion.{and_is}
use Rattle.script.specs.Script.{capitals}
use Rattle.script.proofs.all_capitals.Goals as goal

pub returns : goal.returns
returns c = and_is capitals (λ x. leb x 70) refl (λ _ _. refl) c.args.text.now 0 _ (search rules) (search rules)
