use Rattle.std.proofs.Common.{leb, refl, rules}
use Rattle.std.proofs.lemmas.List.Recursion.{and_is}
use Rattle.hexadecimal.specs.Hex.{value_of, all_digits}
use Rattle.hexadecimal.proofs.all_digits.Goals as goal

pub returns : goal.returns
returns c = and_is all_digits (λ x. leb (value_of x) 15) refl (λ _ _. refl) c.args.text.now 0 _ (search rules) (search rules)
