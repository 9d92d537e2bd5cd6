-- A table of answers in the order in which they are tried: each is "given exactly when" what it is given for holds and nothing of an earlier row
-- does. The refusals of document 01's calls are stated by such tables.
use Rattle.std.specs.Prelude.{ℕ, Bool, true, ◌&&◌, not, cond, List, [], ◌∷◌, ◌++◌, ◌↔◌, ◌≡◌}
use Prim.Native.String.{String}
use Rattle.std.proofs.Math.Option.{Option, some, none}
use Rattle.octets.specs.Told.{Told, refused, answered}

-- an answer, and whether what it is given for holds
pub record Row : Type 0 where
  pub answer : Told
  pub holds : Bool

-- a refusal by its number
abbrev pub refusal : ℕ → Bool → Row
refusal n holds = record { answer = refused n; holds = holds }

-- any other answer by its word and values
abbrev pub reply : String → List ℕ → Bool → Row
reply word values holds = record { answer = answered word values; holds = holds }

-- the answer of the first row that holds
abbrev pub first_of : List Row → Option Told
first_of [] = none
first_of (r ∷ rows) = cond r.holds (some r.answer) (first_of rows)

-- no row holds
abbrev pub none_holds : List Row → Bool
none_holds [] = true
none_holds (r ∷ rows) = not r.holds && none_holds rows

-- AN ANSWER BY ITS TABLE
pub record ByTable (told : Told) (rows : List Row) : Type 0 where
  -- it is that of the first row that holds, and there is one
  pub first : first_of rows ≡ some told
  -- each row's answer is given exactly when the row holds and none before it does
  pub exactly : (earlier : List Row) (r : Row) (later : List Row) → rows ≡ earlier ++ (r ∷ later)
      → (told ≡ r.answer) ↔ ((r.holds ≡ true) × (none_holds earlier ≡ true))
