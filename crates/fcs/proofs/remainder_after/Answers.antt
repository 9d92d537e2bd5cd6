use Prim.Native.Nat.{ℕ}
use mathlib.Core.List.{List, [], ◌∷◌}
use mathlib.Core.Path.{◌≡◌, refl}
use Rattle.std.specs.List.{fold}
use Rattle.std.proofs.Common.{rules}
use Rattle.fcs.specs.Fcs.{octet_step, remainder}
use Rattle.fcs.proofs.remainder_after.Goals as goal

-- the definition is the library's fold
remainder_fold : (r : ℕ) (l : List ℕ) → remainder r l ≡ fold octet_step r l
remainder_fold r [] = refl
remainder_fold r (x ∷ l) = remainder_fold (octet_step r x) l

pub returns : goal.returns
returns c = rw (remainder_fold c.args.start c.args.octets.now) (search rules)
