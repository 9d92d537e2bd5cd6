-- Calls in any mixture, and the same calls one after the other by a key (a socket). Nothing of PB-ADV is used.
use Rattle.std.specs.Prelude.{ℕ, zero, suc, Bool, true, false, List, [], ◌∷◌, ◌++◌, eqb}

module _ {B : Type 0} where
  abbrev pub keep_if : Bool → B → List B → List B
  keep_if true b l = b ∷ l
  keep_if false b l = l

  -- those that have a key, as they came
  abbrev pub with_key : (B → ℕ) → ℕ → List B → List B
  with_key key s [] = []
  with_key key s (b ∷ l) = keep_if (eqb (key b) s) b (with_key key s l)

  -- those with key 0, then those with key 1, and so on up to n, without n
  abbrev pub in_turn : (B → ℕ) → ℕ → List B → List B
  in_turn key zero l = []
  in_turn key (suc n) l = in_turn key n l ++ with_key key n l

  abbrev pub All : (B → Type 0) → List B → Type 0
  All P [] = Unit {0}
  All P (b ∷ l) = P b × All P l

module _ {S K A : Type 0} (step : S → K → A × S) where
  -- the state after calls, each taking the state as the call before left it
  abbrev pub state_after : S → List K → S
  state_after σ [] = σ
  state_after σ (k ∷ ks) = state_after (step σ k).1 ks

  -- each call with its answer
  abbrev pub answers : S → List K → List (K × A)
  answers σ [] = []
  answers σ (k ∷ ks) = (k, (step σ k).0) ∷ answers (step σ k).1 ks

  -- P holds of the state before each of the calls
  abbrev pub BeforeEach : (S → Type 0) → S → List K → Type 0
  BeforeEach P σ [] = Unit {0}
  BeforeEach P σ (k ∷ ks) = P σ × BeforeEach P (step σ k).1 ks

-- the key of a call with its answer
abbrev pub key_of : {K A : Type 0} → (K → ℕ) → K × A → ℕ
key_of key p = key p.0
