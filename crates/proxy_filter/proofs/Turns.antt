-- The loop over the addresses of a message.
use Prim.Native.Nat.{ℕ, ◌≤◌}
use native.Mathlib.Omega.{arith}
use mathlib.Core.Bool.{true}
use mathlib.Core.List.{List, [], ◌∷◌, ◌++◌}
use mathlib.Core.Path.{◌≡◌, refl, sym, ◌∙◌}
use lib.ListN.{length}
use Rattle.std.specs.Prelude.{Ok}
use Rattle.octets.specs.Numbers.{big16}
use Rattle.filter_messages.specs.Messages.{request_of}
use Rattle.filter_messages.specs.declared.Request.{Request}
use Rattle.filter_messages.specs.declared.Change.{Change}
use Rattle.filter_entries.specs.Changes.{changed, changed_all}
use Rattle.filter_entries.proofs.Lists.{fine-changed}
use Rattle.proxy_filter.specs.Filters.{held, holding, is_good}
use Rattle.proxy_filter.specs.Calls.{addresses}
use Rattle.proxy_filter.specs.declared.Filter.{Filter}
use Rattle.proxy_filter.proofs.Holding.{held-holding, kind-holding, long-holding, good-holding, fine-held, rebuilt}

-- a message that asks for something has an opcode
pub some_octet : (m : List ℕ) {q : Request} → request_of m ≡ Ok q → 1 ≤ length m
unfolding request_of
some_octet [] e = let z : ◌≡◌ {A = ℕ} 0 1 = cc in absurd (omega arith)
some_octet (x ∷ m) e = omega arith

short : (o : List ℕ) → length o ≤ 1 → addresses o ≡ []
short [] h = refl
short (x ∷ []) h = refl
short (x ∷ y ∷ o) h = absurd (omega arith)

-- two octets, and those after them
addresses-here : (pair o : List ℕ) → length pair ≡ 2 → addresses (pair ++ o) ≡ big16 pair 0 ∷ addresses o
addresses-here [] o h = absurd (omega arith)
addresses-here (x ∷ []) o h = absurd (omega arith)
addresses-here (x ∷ y ∷ []) o h = refl
addresses-here (x ∷ y ∷ z ∷ p) o h = absurd (omega arith)

-- THE LOOP: the filter f with the octets o to come, f₀ being the one at the start, before all octets
pub record Turn (f₀ : Filter) (c : Change) (all : List ℕ) (f : Filter) (o : List ℕ) : Type 0 where
  pub good : is_good f ≡ true
  pub long : length f.entries ≡ 16
  pub kind : f.kind ≡ f₀.kind
  pub same : changed_all c (held f) (addresses o) ≡ changed_all c (held f₀) (addresses all)

module _ (f₀ : Filter) (c : Change) (all : List ℕ) where
  pub first-turn : is_good f₀ ≡ true → length f₀.entries ≡ 16 → Turn f₀ c all f₀ all
  first-turn good long = record { good = good; long = long; kind = refl; same = refl }

  pub next-turn : (f : Filter) (pair o : List ℕ) → length pair ≡ 2 → Turn f₀ c all f (pair ++ o) → Turn f₀ c all (holding f.kind (changed c (held f) (big16 pair 0))) o
  next-turn f pair o h t =
      let l = changed c (held f) (big16 pair 0) in
      let fine = fine-changed c (held f) (big16 pair 0) (fine-held f t.good) in
      record {
        good = good-holding f.kind l fine.few fine.allowed;
        long = long-holding f.kind l fine.few;
        kind = kind-holding f.kind l ∙ t.kind;
        same = rw (held-holding f.kind l) (sym (rw (addresses-here pair o h)) ∙ t.same);
      }

  pub last_turn : (f : Filter) (o : List ℕ) → Turn f₀ c all f o → length o ≤ 1 → f ≡ holding f₀.kind (changed_all c (held f₀) (addresses all))
  last_turn f o t h = rw (sym t.kind, sym t.same, short o h) (rebuilt f t.long t.good)
