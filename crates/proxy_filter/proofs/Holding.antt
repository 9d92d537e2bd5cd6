-- A filter that isn't bad is the one that holds its list, and so are the filters that come of adding and removing.
use Prim.Native.Nat.{ℕ, zero, suc, ◌+◌, ◌-◌, ◌<◌, ◌≤◌}
use native.Mathlib.Omega.{arith}
use mathlib.Core.Bool.{true, and-eq-true_iff}
use mathlib.Core.List.{List, [], ◌∷◌, ◌++◌, append_assoc}
use mathlib.Core.Path.{◌≡◌, refl, sym, ap, ◌∙◌}
use lib.Dec.{leb}
use lib.ListN.{length, take, drop, set, replicate, length-append, length-take, length-drop, take-append-drop, length-replicate, replicate-append-replicate}
use lib.Seq.{take-append-le, drop-append-le, take_at, drop_at, set_at, length-take-le, append_snoc}
use borrow.Author.Tests.{le-leb, lt-leb, leb-true, eqb-true}
use Rattle.octets.proofs.Tests.{both_hold}
use Rattle.filter_messages.specs.declared.FilterType.{FilterType}
use Rattle.filter_entries.specs.Entries.{unused, all_allowed, all_unused}
use Rattle.filter_entries.specs.Changes.{appended, without}
use Rattle.filter_entries.proofs.Lists.{Fine}
use Rattle.proxy_filter.specs.Filters.{held, holding, is_good}
use Rattle.proxy_filter.specs.declared.Filter.{Filter}

-- a list of places that are not in use
unused-replicate : (l : List ℕ) → all_unused l ≡ true → l ≡ replicate (length l) unused
unused-replicate [] h = refl
unused-replicate (e ∷ l) h =
    let b = both_hold h in
    λ i. eqb-true e 0 b.0 i ∷ unused-replicate l b.1 i

replicate-unused : (n : ℕ) → all_unused (replicate n unused) ≡ true
replicate-unused zero = refl
replicate-unused (suc n) = replicate-unused n

-- ---- the filter that holds a list

pub held-holding : (kind : FilterType) (l : List ℕ) → held (holding kind l) ≡ l
unfolding holding
held-holding kind l = take_at l _ (length l) refl

pub kind-holding : (kind : FilterType) (l : List ℕ) → (holding kind l).kind ≡ kind
unfolding holding
kind-holding kind l = refl

pub count-holding : (kind : FilterType) (l : List ℕ) → (holding kind l).count ≡ length l
unfolding holding
count-holding kind l = refl

pub long-holding : (kind : FilterType) (l : List ℕ) → length l ≤ 16 → length (holding kind l).entries ≡ 16
unfolding holding
long-holding kind l h = omega (arith, length-append l (replicate (16 - length l) unused), length-replicate (16 - length l) unused)

pub good-holding : (kind : FilterType) (l : List ℕ) → length l ≤ 16 → all_allowed l ≡ true → is_good (holding kind l) ≡ true
unfolding is_good holding
good-holding kind l n h =
    let z = replicate (16 - length l) unused in
    rw (le-leb (length l) 16 n, take_at l z (length l) refl, h, drop_at l z (length l) refl) (replicate-unused (16 - length l))

-- ---- a filter that isn't bad

-- its places past the count
abbrev past : Filter → List ℕ
past f = drop f.count f.entries

good-parts : (f : Filter) → is_good f ≡ true → (leb f.count 16 ≡ true) × ((all_allowed (held f) ≡ true) × (all_unused (past f) ≡ true))
unfolding is_good
good-parts f h = let b = (and-eq-true_iff (leb f.count 16) _).0 h in (b.0, (and-eq-true_iff (all_allowed (held f)) _).0 b.1)

pub good-count : (f : Filter) → is_good f ≡ true → f.count ≤ 16
good-count f h = leb-true f.count 16 (good-parts f h).0

good-held : (f : Filter) → is_good f ≡ true → all_allowed (held f) ≡ true
good-held f h = (good-parts f h).1.0

-- its list
pub fine-held : (f : Filter) → is_good f ≡ true → Fine (held f)
fine-held f g = record { few = omega (arith, length-take f.count f.entries, good-count f g); allowed = good-held f g }

module _ (f : Filter) (long : length f.entries ≡ 16) (good : is_good f ≡ true) where
  pub held-length : length (held f) ≡ f.count
  held-length = let n = good-count f good in length-take-le f.count f.entries (omega arith)

  past_is : past f ≡ replicate (16 - f.count) unused
  past_is = let n : length (past f) ≡ 16 - f.count = omega (arith, length-drop f.count f.entries) in unused-replicate (past f) (good-parts f good).1.1 ∙ rw n

  entries-are : f.entries ≡ held f ++ replicate (16 - f.count) unused
  entries-are = sym (take-append-drop f.count f.entries) ∙ ap (λ (l : List ℕ). held f ++ l) past_is

  pub rebuilt : f ≡ holding f.kind (held f)
  unfolding holding
  rebuilt = λ i. record { kind = f.kind; count = sym held-length i; entries = same i }
    where
      same : f.entries ≡ held f ++ replicate (16 - length (held f)) unused
      same = rw held-length entries-are

  -- one address more
  added-after : (a : ℕ) → f.count < 16
      → ◌≡◌ {A = Filter} (record { kind = f.kind; count = f.count + 1; entries = set f.entries f.count a })
      (holding f.kind (held f ++ (a ∷ [])))
  unfolding holding
  added-after a h = λ i. record { kind = f.kind; count = sym n i; entries = filled i }
    where
      n : length (held f ++ (a ∷ [])) ≡ f.count + 1
      n = omega (arith, length-append (held f) (a ∷ []), held-length)

      room : 16 - f.count ≡ suc (16 - (f.count + 1))
      room = omega arith

      first : f.entries ≡ held f ++ unused ∷ replicate (16 - (f.count + 1)) unused
      first = entries-are ∙ rw room

      filled : set f.entries f.count a ≡ (held f ++ (a ∷ [])) ++ replicate (16 - length (held f ++ (a ∷ []))) unused
      filled =
          ap (λ (l : List ℕ). set l f.count a) first
          ∙ set_at (held f) unused (replicate (16 - (f.count + 1)) unused) a f.count held-length
          ∙ sym (append_snoc (held f) a (replicate (16 - (f.count + 1)) unused)) ∙ rw n

  pub no_room : (a : ℕ) → 16 ≤ f.count → f ≡ holding f.kind (appended (held f) a)
  no_room a h = rw (le-leb 16 (length (held f)) (omega (arith, held-length))) rebuilt

  pub room : (a : ℕ) → f.count < 16
      → ◌≡◌ {A = Filter} (record { kind = f.kind; count = f.count + 1; entries = set f.entries f.count a })
      (holding f.kind (appended (held f) a))
  room a h = rw (lt-leb 16 (length (held f)) (omega (arith, held-length))) (added-after a h)

  -- the address at a place taken out
  pub taken_out : (at : ℕ) → at < f.count
      → ◌≡◌ {A = Filter} (record { kind = f.kind; count = f.count - 1; entries = take at f.entries ++ drop (suc at) f.entries ++ (unused ∷ []) })
      (holding f.kind (without (held f) at))
  unfolding holding
  taken_out at h = λ i. record { kind = f.kind; count = sym n i; entries = (closed ∙ ap (λ (m : ℕ). without (held f) at ++ replicate m unused) left) i }
    where
      z : List ℕ
      z = replicate (16 - f.count) unused

      last : z ++ (unused ∷ []) ≡ replicate (16 - f.count + 1) unused
      last = replicate-append-replicate (16 - f.count) 1 unused

      closed : take at f.entries ++ drop (suc at) f.entries ++ (unused ∷ []) ≡ without (held f) at ++ replicate (16 - f.count + 1) unused
      closed =
          ap (λ (l : List ℕ). take at l ++ drop (suc at) l ++ (unused ∷ [])) entries-are
          ∙ rw (take-append-le at (held f) z (omega (arith, held-length)), drop-append-le (suc at) (held f) z (omega (arith, held-length)))
          (simp append_assoc (ap (λ (l : List ℕ). take at (held f) ++ (drop (suc at) (held f) ++ l)) last))

      n : length (without (held f) at) ≡ f.count - 1
      n =
          omega (
            arith,
            length-append (take at (held f)) (drop (suc at) (held f)),
            length-take-le at (held f) (omega (arith, held-length)),
            length-drop (suc at) (held f),
            held-length,
          )

      left : 16 - f.count + 1 ≡ 16 - length (without (held f) at)
      left = omega (arith, n, good-count f good)
