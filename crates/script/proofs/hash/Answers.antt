use Prim.Native.Nat.{ℕ}
use mathlib.Core.List.{List, [], ◌∷◌}
use mathlib.Core.Path.{◌≡◌, refl}
use Rattle.std.specs.List.{fold}
use Rattle.std.proofs.Common.{rules}
use Rattle.script.specs.Script.{hash_step, hash_from}
use Rattle.script.proofs.hash.Goals as goal

-- the definition is the library's fold
hash_fold : (h : ℕ) (l : List ℕ) → hash_from h l ≡ fold hash_step h l
hash_fold h [] = refl
hash_fold h (x ∷ l) = hash_fold (hash_step h x) l

pub returns : goal.returns
returns c = rw (hash_fold c.args.before c.args.octets.now) (search rules)
