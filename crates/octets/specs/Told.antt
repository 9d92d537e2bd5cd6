-- What an answer says in document 01's terms. Each answer is an enum of its own; a definition beside it gives its meaning here.
use Rattle.std.specs.Prelude.{ℕ, List}
use Prim.Native.String.{String}

-- a refusal by its number, any other answer by its word and its values
pub data Told : Type 0 where
  refused : ℕ → Told
  answered : String → List ℕ → Told
