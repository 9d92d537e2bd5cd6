-- The search for a Link ID is std's search for a place.
use Prim.Native.Nat.{ℕ, suc}
use native.Mathlib.Numerals.{add-one}
use mathlib.Core.List.{List, [], ◌∷◌}
use mathlib.Core.Path.{◌≡◌, refl, sym, ◌∙◌}
use Rattle.std.specs.Prelude.{position}
use Rattle.std.specs.List.{position_from}
use Rattle.std.proofs.lemmas.Iterator.Adapters.{position_from-zero}
use Rattle.links.specs.declared.Link.{Link}
use Rattle.links.specs.Links.{has_id, find_from, find}

from-place : (k : ℕ) (ls : List Link) (id : ℕ) → position_from (λ l. has_id l id) k ls ≡ find_from k ls id
unfolding find_from
from-place k [] id = refl
from-place k (l ∷ ls) id = rw (add-one k, from-place (suc k) ls id)

pub found : (ls : List Link) (id : ℕ) → find ls id ≡ position (λ l. has_id l id) ls
found ls id = sym (position_from-zero (λ l. has_id l id) ls ∙ from-place 0 ls id)
