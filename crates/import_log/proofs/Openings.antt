-- The latest opening of a socket: an Open among the operations of lines is one of the lines, and while its socket stays in use no other is done.
use Prim.Native.Nat.{ℕ}
use native.Mathlib.Omega.{arith}
use mathlib.Core.Bool.{true, false, false≢true}
use mathlib.Core.List.{List, [], ◌∷◌, ◌++◌}
use mathlib.Core.Path.{◌≡◌, refl, sym, ap, ◌∙◌, subst}
use lib.ListN.{length}
use Rattle.octets.specs.Told.{answered}
use Rattle.octets.proofs.Tables.{other-told}
use Rattle.octets.proofs.Tests.{cases}
use Rattle.transactions.specs.Numbers.{is_socket}
use Rattle.transactions.specs.declared.Socket.{Socket}
use Rattle.links.specs.Links.{provisioner, in_use, told}
use Rattle.links.specs.Good.{good}
use Rattle.links.specs.Station.{Station, get_link, of_socket, link_at, local_open}
use Rattle.links.specs.Interleaving.{state_after, BeforeEach}
use Rattle.links.specs.Operations.{Operation, opening, operate, after_all as operated}
use Rattle.links.specs.Demand2.{UsedUnder}
use Rattle.links.specs.declared.Side.TheVariants.{Provisioner}
use Rattle.links.specs.declared.Link.{Link}
use Rattle.links.proofs.Interleaving.{after-append}
use Rattle.import_log.specs.Logs.{Import, after, after_all, at_first}
use Rattle.import_log.specs.Records.{Opens, LatestOpening}
use Rattle.import_log.proofs.Operations.{operations_in, operations_from, Does, hears, opens, sends, closes, nothing, does, station_in, station-after, stations-after, after-lines, operations-append, opening-operations, opened-by}

-- ---- the line of an operation

record SplitAt (m : Import) (lines : List (List ℕ)) (front : List Operation) (c : Operation) (rest : List Operation) : Type 0 where
  before : List (List ℕ)
  line : List ℕ
  since : List (List ℕ)
  split : lines ≡ before ++ (line ∷ since)
  earlier : operations_from m before ≡ front
  is : operations_in (after_all m before).log.tray line ≡ c ∷ []
  others : operations_from (after (after_all m before) line) since ≡ rest

further : (m : Import) (line : List ℕ) {lines : List (List ℕ)} {front : List Operation} {c : Operation} {rest : List Operation}
    → SplitAt (after m line) lines front c rest → SplitAt m (line ∷ lines) (operations_in m.log.tray line ++ front) c rest
unfolding operations_from
further m line z = record {
  before = line ∷ z.before;
  line = z.line;
  since = z.since;
  split = ap (λ (l : List (List ℕ)). line ∷ l) z.split;
  earlier = ap (λ (l : List Operation). operations_in m.log.tray line ++ l) z.earlier;
  is = z.is;
  others = z.others;
}

pub none_left : (a : List Operation) (c : Operation) (b : List Operation) → [] ≡ a ++ (c ∷ b) → ⊥
none_left [] c b e = let z : ◌≡◌ {A = ℕ} 0 1 = cc in omega arith
none_left (x ∷ a) c b e = let z : ◌≡◌ {A = ℕ} 0 1 = cc in omega arith

split_at : (m : Import) (lines : List (List ℕ)) (a : List Operation) (c : Operation) (b : List Operation)
    → operations_from m lines ≡ a ++ (c ∷ b) → SplitAt m lines a c b
unfolding operations_from
split_at m [] a c b e = absurd (none_left a c b e)
split_at m (line ∷ lines) a c b e = of (does m.log.tray line) (λ x. split_at (after m line) lines x c b)
  where
    rest : List Operation
    rest = operations_from (after m line) lines

    -- a line that does one
    one : (o : Operation) → operations_in m.log.tray line ≡ o ∷ [] → (x : List Operation) → o ∷ rest ≡ x ++ (c ∷ b)
        → ((y : List Operation) → rest ≡ y ++ (c ∷ b) → SplitAt (after m line) lines y c b) → SplitAt m (line ∷ lines) x c b
    one o q [] g r =
        let head : o ≡ c = cc in
        let tail : rest ≡ b = cc in
        record { before = []; line = line; since = lines; split = refl; earlier = refl; is = rw (← head) q; others = tail }
    one o q (y ∷ x) g r =
        let head : o ≡ y = cc in
        let tail : rest ≡ x ++ (c ∷ b) = cc in
        let front : operations_in m.log.tray line ++ x ≡ y ∷ x = ap (λ (l : List Operation). l ++ x) q ∙ ap (λ (p : Operation). p ∷ x) head in
        subst (λ (l : List Operation). SplitAt m (line ∷ lines) l c b) front (further m line (r x tail))

    of : Does m.log.tray line → ((x : List Operation) → rest ≡ x ++ (c ∷ b) → SplitAt (after m line) lines x c b) → SplitAt m (line ∷ lines) a c b
    of (hears f q) r = one _ q a (rw q at e) r
    of (opens f q) r = one _ q a (rw q at e) r
    of (sends s n q) r = one _ q a (rw q at e) r
    of (closes s h g q) r = one _ q a (rw q at e) r
    of (nothing q) r = subst (λ (l : List Operation). SplitAt m (line ∷ lines) l c b) (ap (λ (l : List Operation). l ++ a) q) (further m line (r a (rw q at e)))

-- ---- the state before each operation

module _ {S K A : Type 0} (step : S → K → A × S) (P : S → Type 0) where
  before-this : (σ : S) (a : List K) (k : K) (b : List K) → BeforeEach step P σ (a ++ (k ∷ b)) → P (state_after step σ a)
  before-this σ [] k b h = h.0
  before-this σ (j ∷ a) k b h = before-this (step σ j).1 a k b h.1

  before_at : (σ τ : S) → σ ≡ τ → (ks : List K) → BeforeEach step P τ ks → (a : List K) (k : K) (b : List K) → ks ≡ a ++ (k ∷ b) → P (state_after step σ a)
  before_at σ τ q ks h a k b e = before-this σ a k b (rw (q, ← e) h)

-- ---- openings

-- an Open is done only where the socket is free
pub done-free : (ls : List Link) (s : Socket) (id : ℕ) → told (local_open Provisioner ls s id).0 ≡ answered "done" [] → in_use (link_at ls s).state ≡ false
unfolding local_open
done-free ls s id =
    cases (is_socket s (length ls))
    (λ r. rw r (cases (good Provisioner ls)
    (λ g. rw g (cases (in_use (link_at ls s).state) (λ u. rw u (λ e. other-told _ _ refl e)) (λ u e. u)))
    (λ g. rw g (λ e. other-told _ _ refl e))))
    (λ r. rw r (λ e. other-told _ _ refl e))

-- the latest opening, with the operations of the lines since
pub record OpeningOf (lines : List (List ℕ)) (s : Socket) (id : ℕ) (rest : List Operation) : Type 0 where
  pub opened : LatestOpening lines s id
  pub others : operations_from (after (after_all at_first opened.before) opened.opening) opened.since ≡ rest

module _ (lines : List (List ℕ)) (s : Socket) (id : ℕ) (front rest : List Operation) (split : operations_from at_first lines ≡ front ++ (opening s id ∷ rest))
    (done : told (operate provisioner (operated provisioner (station_in at_first) front) (opening s id)).0 ≡ answered "done" [])
    (held : BeforeEach (operate provisioner) (λ τ. UsedUnder id (of_socket s τ))
    (operated provisioner (station_in at_first) (front ++ (opening s id ∷ []))) rest) where
  z : SplitAt at_first lines front (opening s id) rest
  z = split_at at_first lines front (opening s id) rest split

  -- the log at the opening, and behind it
  abbrev m : Import
  m = after_all at_first z.before

  abbrev m' : Import
  m' = after m z.line

  station-at : station_in m ≡ operated provisioner (station_in at_first) front
  station-at = stations-after at_first z.before ∙ ap (operated provisioner (station_in at_first)) z.earlier

  station-behind : station_in m' ≡ operated provisioner (station_in at_first) (front ++ (opening s id ∷ []))
  station-behind =
      station-after m z.line ∙ ap (operated provisioner (station_in m)) z.is ∙ ap (λ (σ : Station). operated provisioner σ (opening s id ∷ [])) station-at
      ∙ sym (after-append (operate provisioner) (station_in at_first) front (opening s id ∷ []))

  opens_at : Opens m z.line s id
  opens_at =
      let w = opened-by m.log.tray z.line s id z.is in
      record {
        form = w.0;
        socket = w.1;
        link_id = w.2;
        done = subst (λ (σ : Station). told (local_open Provisioner σ.links s id).0 ≡ answered "done" []) (sym station-at) done;
      }

  -- the socket is in use before each line since that does anything
  used-at : (between : List (List ℕ)) (line : List ℕ) (later : List (List ℕ)) → z.since ≡ between ++ (line ∷ later)
      → (c : Operation) → operations_in (after_all m' between).log.tray line ≡ c ∷ [] → in_use (link_at (after_all m' between).log.tray.links s).state ≡ true
  unfolding operations_from get_link
  used-at between line later e c q =
      let all : rest ≡ operations_from m' between ++ (c ∷ operations_from (after (after_all m' between) line) later) =
      sym z.others ∙ ap (operations_from m') e ∙ operations-append m' between (line ∷ later)
      ∙ ap (λ (l : List Operation). operations_from m' between ++ (l ++ operations_from (after (after_all m' between) line) later)) q in
      let w = before_at (operate provisioner) (λ τ. UsedUnder id (of_socket s τ)) (station_in m') _ station-behind rest held (operations_from m' between) c _ all in
      subst (λ (σ : Station). in_use (link_at σ.links s).state ≡ true) (sym (stations-after m' between)) w.is_used

  latest : (between : List (List ℕ)) (line : List ℕ) (later : List (List ℕ)) → z.since ≡ between ++ (line ∷ later)
      → (other : ℕ) → Opens (after_all m' between) line s other → ⊥
  latest between line later e other w =
      let q = opening-operations (after_all m' between).log.tray line w.form in
      false≢true (sym (done-free _ s other w.done) ∙ used-at between line later e _ q)

  pub opening_of : OpeningOf lines s id rest
  opening_of = record {
    opened = record {
      before = z.before;
      opening = z.line;
      since = z.since;
      split = z.split;
      opens = opens_at;
      latest = λ between line later e other w. latest between line later e other (rw (after-lines at_first z.before (z.line ∷ between)) at w);
    };
    others = z.others;
  }
