-- The promises of the filter.
use Prim.Native.Nat.{ℕ, suc, ◌-◌, ◌*◌, ◌%◌, ◌<◌, ◌≤◌}
use native.Mathlib.Nat.{div-add-mod'}
use native.Mathlib.Omega.{arith}
use mathlib.Core.Bool.{true, false, and-eq-true_iff}
use mathlib.Core.List.{List, [], ◌∷◌}
use mathlib.Core.Logic.{◌≢◌}
use mathlib.Core.Path.{◌≡◌, refl, sym, ap, ◌∙◌}
use lib.Dec.{leb, eqb}
use lib.ListN.{length, drop}
use borrow.Author.Tests.{le-leb, ne_eqb, leb-true}
use Rattle.std.specs.Prelude.{Result, Ok, Err}
use Rattle.octets.specs.Told.{answered}
use Rattle.octets.proofs.Tests.{cases}
use Rattle.filter_messages.specs.Messages.{type_of, change_of, request_of}
use Rattle.filter_messages.specs.declared.FilterType.{FilterType}
use Rattle.filter_messages.specs.declared.FilterType.TheVariants.{AcceptList, RejectList}
use Rattle.filter_messages.specs.declared.Change.{Change}
use Rattle.filter_messages.specs.declared.Change.TheVariants.{Add, Remove}
use Rattle.filter_messages.specs.declared.Request.{Request}
use Rattle.filter_messages.specs.declared.Request.TheVariants as Q
use Rattle.filter_messages.specs.declared.FilterRefusal.{FilterRefusal}
use Rattle.filter_messages.specs.declared.FilterRefusal.TheVariants as R
use Rattle.filter_entries.specs.Entries.{is_on}
use Rattle.filter_entries.specs.Changes.{changed, changed_all}
use Rattle.filter_entries.proofs.Lists.{Fine, fine-changed, fine-all, on-after, off-after, others-left}
use Rattle.filter_entries.proofs.Promises.{all-added, all-removed}
use Rattle.proxy_filter.specs.Filters.{held, holding, is_good}
use Rattle.proxy_filter.specs.Calls.{addresses, performed, controlled, change_for, is_unicast, learned, passing, reporting, refusing, pass_told}
use Rattle.proxy_filter.specs.Tables.{bad_row, list_passes}
use Rattle.proxy_filter.specs.Promises.{Empty, AtStart, Safe, AllSafe, octets_of, after_message, AllInTurn, NoneChanges, AllLearnAs, TypesSet, Additions, Removals, AllLearning}
use Rattle.proxy_filter.specs.declared.Filter.{Filter}
use Rattle.proxy_filter.specs.declared.FilterStep.{FilterStep}
use Rattle.proxy_filter.proofs.Holding.{held-holding, kind-holding, good-holding, fine-held, rebuilt}
use Rattle.proxy_filter.proofs.Tables.{pass-table}

-- ---- an empty list

empty : (type : FilterType) → Empty type (holding type [])
unfolding holding
empty type = record { kind = refl; count = refl; entries = refl }

pub at-start : AtStart
at-start = empty AcceptList

-- ---- every call

safe-refusing : (f : Filter) (r : FilterRefusal) → Safe f (refusing f r)
safe-refusing f r = record {
  refusal-keeps = λ n e. refl;
  keeps-good = λ h. h;
}

safe-reporting : (f : Filter) (kind : FilterType) (l : List ℕ) → Fine l → Safe f (reporting (holding kind l))
safe-reporting f kind l h = record {
  refusal-keeps = λ n e. let z : ◌≡◌ {A = ℕ} 0 1 = cc in absurd (omega arith);
  keeps-good = λ g. good-holding kind l h.few h.allowed;
}

safe-performed : (f : Filter) (m : List ℕ) (q : Result Request FilterRefusal) → is_good f ≡ true → Safe f (performed f m q)
safe-performed f m (Ok (Q.SetType kind)) g = safe-reporting f kind [] (record { few = omega arith; allowed = refl })
safe-performed f m (Ok (Q.Change c)) g = safe-reporting f f.kind _ (fine-all c (held f) (addresses (drop 1 m)) (fine-held f g))
safe-performed f m (Err r) g = safe-refusing f r

pub all-safe : AllSafe
unfolding controlled learned
all-safe = record {
  starts-good = good-holding AcceptList [] (omega arith) refl;
  message = λ f m. cases (is_good f) (λ g. rw g (safe-performed f m (request_of m) g)) (λ g. rw g (safe-refusing f R.BadState));
  source = λ f a.
      cases (is_good f)
      (λ g. rw g (cases (is_unicast a)
      (λ u. rw u (safe-reporting f f.kind _ (fine-changed (change_for f.kind) (held f) a (fine-held f g))))
      (λ u. rw u (safe-refusing f R.NotUnicast))))
      (λ g. rw g (safe-refusing f R.BadState));
}

-- ---- messages of addresses

octets-addresses : (l : List ℕ) → addresses (octets_of l) ≡ l
octets-addresses [] = refl
octets-addresses (a ∷ l) = λ i. div-add-mod' a 256 i ∷ octets-addresses l i

octets-length : (l : List ℕ) → length (octets_of l) ≡ 2 * length l
octets-length [] = refl
octets-length (a ∷ l) = omega (arith, octets-length l)

changes : (c : Change) (o : ℕ) (l : List ℕ) → length l ≤ 16 → change_of c (o ∷ octets_of l) ≡ Ok (Q.Change c)
unfolding change_of
changes c o l h =
    let n : suc (length (octets_of l)) - 1 ≡ 2 * length l = omega (arith, octets-length l) in
    let e : 2 * length l % 2 ≡ 0 = omega arith in
    rw (n, le-leb (2 * length l) 32 (omega arith), e)

not-empty : (o : ℕ) (l : List ℕ) → eqb (length (o ∷ octets_of l)) 0 ≡ false
not-empty o l = ne_eqb (length (o ∷ octets_of l)) 0 (λ e. absurd (omega arith))

asks-to-add : (l : List ℕ) → length l ≤ 16 → request_of (0x01 ∷ octets_of l) ≡ Ok (Q.Change Add)
unfolding request_of
asks-to-add l h = rw (not-empty 0x01 l) (changes Add 0x01 l h)

asks-to-remove : (l : List ℕ) → length l ≤ 16 → request_of (0x02 ∷ octets_of l) ≡ Ok (Q.Change Remove)
unfolding request_of
asks-to-remove l h = rw (not-empty 0x02 l) (changes Remove 0x02 l h)

-- a message that asks for a change, with its addresses
module _ (c : Change) (opcode : ℕ) (asks : (l : List ℕ) → length l ≤ 16 → request_of (opcode ∷ octets_of l) ≡ Ok (Q.Change c)) where
  answers : (f : Filter) (l : List ℕ) → is_good f ≡ true → length l ≤ 16 → controlled f (opcode ∷ octets_of l) ≡ reporting (holding f.kind (changed_all c (held f) l))
  unfolding controlled
  answers f l g h = rw (g, asks l h, octets-addresses l)

  does : (f : Filter) (l : List ℕ) → is_good f ≡ true → length l ≤ 16 → after_message opcode f l ≡ holding f.kind (changed_all c (held f) l)
  does f l g h = ap (λ (r : FilterStep). r.filter) (answers f l g h)

  in-turn : (f : Filter) (a : ℕ) (more : List ℕ) → is_good f ≡ true → length (a ∷ more) ≤ 16
      → after_message opcode f (a ∷ more) ≡ after_message opcode (after_message opcode f (a ∷ [])) more
  in-turn f a more g h =
      let l = changed c (held f) a in
      let fine = fine-changed c (held f) a (fine-held f g) in
      does f (a ∷ more) g h
      ∙ sym (rw (does f (a ∷ []) g (omega arith), does (holding f.kind l) more (good-holding f.kind l fine.few fine.allowed) (omega arith), held-holding f.kind l, kind-holding f.kind l))

  none-changes : (f : Filter) → length f.entries ≡ 16 → is_good f ≡ true → after_message opcode f [] ≡ f
  none-changes f long g = does f [] g (omega arith) ∙ sym (rebuilt f long g)

pub all-in-turn : AllInTurn
all-in-turn f a more g h = record { adds = in-turn Add 0x01 asks-to-add f a more g h; removes = in-turn Remove 0x02 asks-to-remove f a more g h }

pub none-change : NoneChanges
none-change f long g = (none-changes Add 0x01 asks-to-add f long g, none-changes Remove 0x02 asks-to-remove f long g)

pub types-set : TypesSet
unfolding controlled request_of type_of
types-set f g = record { accept = rw g (empty AcceptList); reject = rw g (empty RejectList) }

-- a message with one address
module _ (f : Filter) (a : ℕ) (g : is_good f ≡ true) where
  one-added : after_message 0x01 f (a ∷ []) ≡ holding f.kind (changed Add (held f) a)
  one-added = does Add 0x01 asks-to-add f (a ∷ []) g (omega arith)

  one-removed : after_message 0x02 f (a ∷ []) ≡ holding f.kind (changed Remove (held f) a)
  one-removed = does Remove 0x02 asks-to-remove f (a ∷ []) g (omega arith)

pub additions : Additions
additions f a g = record {
  list = rw (one-added f a g, held-holding f.kind _) (all-added (held f) a);
  type = rw (one-added f a g) (kind-holding f.kind _);
}

pub removals : Removals
removals f a g = record {
  list = rw (one-removed f a g, held-holding f.kind _) (all-removed (held f) a);
  others = rw (one-removed f a g, held-holding f.kind _) (others-left (held f) a (fine-held f g).allowed);
  type = rw (one-removed f a g) (kind-holding f.kind _);
}

-- ---- a source learned

-- what learning leaves
learned-as : (f : Filter) (s : ℕ) → is_good f ≡ true → is_unicast s ≡ true → learned f s ≡ reporting (holding f.kind (changed (change_for f.kind) (held f) s))
unfolding learned
learned-as f s g u = rw (g, u)

pub all-learn-as : AllLearnAs
all-learn-as f s g u = record {
  accept = λ k. learns Add 0x01 asks-to-add (ap change_for k);
  reject = λ k. learns Remove 0x02 asks-to-remove (ap change_for k);
}
  where
    learns : (c : Change) (opcode : ℕ) (asks : (l : List ℕ) → length l ≤ 16 → request_of (opcode ∷ octets_of l) ≡ Ok (Q.Change c)) → change_for f.kind ≡ c
        → (learned f s).filter ≡ after_message opcode f (s ∷ [])
    learns c opcode asks k =
        ap (λ (r : FilterStep). r.filter) (learned-as f s g u)
        ∙ ap (λ (c : Change). holding f.kind (changed c (held f) s)) k ∙ sym (does c opcode asks f (s ∷ []) g (omega arith))

-- ---- learning, then passing

unicast-not-zero : (s : ℕ) → is_unicast s ≡ true → s ≢ 0
unicast-not-zero s u = λ e. absurd (omega (arith, leb-true 1 s ((and-eq-true_iff (leb 1 s) (leb s 0x7FFF)).0 u).0))

-- a destination that passes
passes : (f : Filter) (d : ℕ) → is_good f ≡ true → d ≢ 0 → list_passes f.kind (is_on (held f) d) ≡ true → pass_told (passing f d) ≡ answered "passes" []
passes f d g z h = ((pass-table f d).exactly (bad_row f ∷ []) _ _ refl).1 (rw (ne_eqb d 0 z, h), rw g)

-- a source that is on the list after it was added
on-added : (l : List ℕ) (s : ℕ) → s ≢ 0 → length l < 16 → is_on (changed Add l s) s ≡ true
on-added l s z h =
    cases (is_on l s)
    (λ n. rw ((all-added l s).there n) n)
    (λ n. rw ((all-added l s).last z n h) (on-after l s))

module _ (f : Filter) (s : ℕ) (g : is_good f ≡ true) (u : is_unicast s ≡ true) where
  after-good : is_good (learned f s).filter ≡ true
  after-good = (all-safe.source f s).keeps-good g

  after-kind : (learned f s).filter.kind ≡ f.kind
  after-kind = rw (learned-as f s g u) (kind-holding f.kind _)

  after-held : held (learned f s).filter ≡ changed (change_for f.kind) (held f) s
  after-held = rw (learned-as f s g u) (held-holding f.kind _)

  passes-accept : f.kind ≡ AcceptList → is_on (changed Add (held f) s) s ≡ true → pass_told (passing (learned f s).filter s) ≡ answered "passes" []
  passes-accept k h = passes (learned f s).filter s after-good (unicast-not-zero s u) (rw (after-kind, after-held, k) h)

  passes-reject : f.kind ≡ RejectList → pass_told (passing (learned f s).filter s) ≡ answered "passes" []
  passes-reject k =
      passes (learned f s).filter s after-good (unicast-not-zero s u) (rw (after-kind, after-held, k, off-after (held f) s (fine-held f g).allowed))

  skips-full : length f.entries ≡ 16 → f.kind ≡ AcceptList → 16 ≤ length (held f) → learned f s ≡ reporting f
  skips-full long k h =
      let c : changed (change_for f.kind) (held f) s ≡ held f = rw k ((all-added (held f) s).full h) in
      learned-as f s g u ∙ rw (c, sym (rebuilt f long g))

pub all-learning : AllLearning
all-learning f s long g u = record {
  accept-room = λ k h. passes-accept f s g u k (on-added (held f) s (unicast-not-zero s u) h);
  accept-there = λ k h. passes-accept f s g u k (rw ((all-added (held f) s).there h) h);
  reject = λ k. passes-reject f s g u k;
  full = λ k h. ap (λ (r : FilterStep). r.filter) (skips-full f s g u long k h);
}
