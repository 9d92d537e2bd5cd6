-- The promises of `specs/Sockets.antt`.
use Rattle.std.specs.Prelude.{None, Option, Some, Result, Ok}
use Rattle.links.specs.declared.Answer.{Answer}
use Rattle.links.specs.declared.Refusal.{Refusal}
use Prim.Native.Nat.{ℕ, zero, suc, ◌≤◌, ◌<◌}
use native.Mathlib.Omega.{arith}
use mathlib.Core.Bool.{true, false, false≢true}
use mathlib.Core.List.{List, [], ◌∷◌, ◌++◌, append_assoc}
use mathlib.Core.Logic.{◌⊎◌, inl, inr}
use mathlib.Core.Path.{◌≡◌, refl, sym, ap, ◌∙◌, subst}
use lib.Dec.{eqb, leb}
use lib.ListN.{length, get_or, replicate}
use lib.Seq.{get_or-set_same}
use borrow.Author.Tests.{eqb-true, eqb-false, leb-true}
use Rattle.octets.proofs.Tables.{other-told}
use Rattle.octets.proofs.Tests.{cases, both_hold}
use Rattle.transactions.specs.Numbers.{is_socket, socket_place}
use Rattle.transactions.specs.declared.Socket.{Socket}
use Rattle.links.specs.Links.{blank_with, find, told}
use Rattle.links.specs.Station.{is_found, local_open}
use Rattle.links.specs.declared.Side.TheVariants.{Provisioner}
use Rattle.links.specs.declared.LinkState.TheVariants as L
use Rattle.links.specs.declared.Link.{Link}
use Rattle.links.specs.declared.Answer.TheVariants as A
use Rattle.links.proofs.Local.{Calls, refusal, written, open-calls}
use Rattle.links.proofs.Sockets.{place-below}
use Rattle.provisioning.specs.declared.Capabilities.{Capabilities}
use Rattle.line_fields.specs.declared.Word.{Word}
use Rattle.line_fields.specs.declared.Word.TheVariants as W
use Rattle.line_fields.specs.declared.Field.TheVariants as F
use Rattle.std.specs.Prelude.{Some}
use Rattle.stock_table.specs.Rows.{socket_row}
use Rattle.stock_table.specs.declared.Row.{Row}
use Rattle.import_tray.specs.Trays.{stock_at, last_by}
use Rattle.import_tray.specs.declared.Stock.{Stock}
use Rattle.import_tray.specs.declared.Stock.TheVariants as K
use Rattle.import_tray.specs.declared.Step.{Step}
use Rattle.log_lines.specs.Lines.{is_opening, socket_in, id_in}
use Rattle.import_log.specs.Logs.{Import, after, after_all, at_first}
use Rattle.import_log.specs.Records.{Opens, LatestOpening, is_record_word, RecordsAt, RecordedSince}
use Rattle.import_log.specs.Sockets.{NeverOpened, NoRecordSince, HasRecord, report_of, SocketsTold}
use Rattle.import_log.proofs.Operations.{after-lines}
use Rattle.import_log.proofs.Rows.{opened as opened-step, is_recorded, stock-counts}
use Rattle.import_log.proofs.Stock.{stock_in, StockAfterAll, unchanged, opened_in, recorded_in, OpenedIn, stock-after-all, Fresh, fresh}
use Rattle.import_log.proofs.Records.{every-record}

-- ---- whether a line opens a socket

abbrev Opening : Import → List ℕ → Socket → Type 0
Opening m line s = (id : ℕ) × Opens m line s id

decide : (m : Import) (line : List ℕ) (s : Socket) → Opening m line s ⊎ (Opening m line s → ⊥)
decide m line s =
    cases (is_opening line)
    (λ f. cases (eqb (socket_in line).0 s.0)
    (λ g. by f (let q = eqb-true (socket_in line).0 s.0 g in λ i. record { 0 = q i }) (open-calls Provisioner links s (id_in line)))
    (λ g. inr (λ o. eqb-false (socket_in line).0 s.0 g (ap (λ (t : Socket). t.0) o.1.socket))))
    (λ f. inr (λ o. false≢true (sym f ∙ o.1.form)))
  where
    links : List Link
    links = m.log.tray.links

    by : is_opening line ≡ true → socket_in line ≡ s
        → Calls Provisioner links s (is_found (find links (id_in line)) ≡ false) (Ok A.Done) (blank_with Provisioner L.Opening (id_in line))
        (local_open Provisioner links s (id_in line))
        → Opening m line s ⊎ (Opening m line s → ⊥)
    by f g (refusal q e) =
        inr (λ o. other-told _ _ refl
        (sym (ap (λ (x : Result Answer Refusal × List Link). told x.0) e) ∙ ap (λ (id : ℕ). told (local_open Provisioner links s id).0) o.1.link_id ∙ o.1.done))
    by f g (written r q u e) = inl (id_in line, record { form = f; socket = g; link_id = refl; done = ap (λ (x : Result Answer Refusal × List Link). told x.0) e })

-- ---- the latest opening among lines, if there is one

abbrev NeverIn : Import → List (List ℕ) → Socket → Type 0
NeverIn m lines s =
    (before : List (List ℕ)) (line : List ℕ) (rest : List (List ℕ)) → lines ≡ before ++ (line ∷ rest)
    → (id : ℕ) → Opens (after_all m before) line s id → ⊥

record LatestIn (m : Import) (lines : List (List ℕ)) (s : Socket) : Type 0 where
  before : List (List ℕ)
  opening : List ℕ
  since : List (List ℕ)
  id : ℕ
  split : lines ≡ before ++ (opening ∷ since)
  opens : Opens (after_all m before) opening s id
  latest : NeverIn (after (after_all m before) opening) since s

no_lines : (a : List (List ℕ)) (x : List ℕ) (b : List (List ℕ)) → [] ≡ a ++ (x ∷ b) → ⊥
no_lines [] x b e = let z : ◌≡◌ {A = ℕ} 0 1 = cc in omega arith
no_lines (y ∷ a) x b e = let z : ◌≡◌ {A = ℕ} 0 1 = cc in omega arith

latest-in : (m : Import) (lines : List (List ℕ)) (s : Socket) → LatestIn m lines s ⊎ NeverIn m lines s
latest-in m [] s = inr (λ before line rest e. absurd (no_lines before line rest e))
latest-in m (line ∷ lines) s = of (latest-in (after m line) lines s) (decide m line s)
  where
    never : NeverIn (after m line) lines s → (Opening m line s → ⊥) → NeverIn m (line ∷ lines) s
    never n h [] x rest e id o =
        let q : line ≡ x = cc in
        h (id, rw q o)
    never n h (y ∷ before) x rest e id o =
        let q : line ≡ y = cc in
        let r : lines ≡ before ++ (x ∷ rest) = cc in
        n before x rest r id (rw q o)

    of : LatestIn (after m line) lines s ⊎ NeverIn (after m line) lines s → Opening m line s ⊎ (Opening m line s → ⊥)
        → LatestIn m (line ∷ lines) s ⊎ NeverIn m (line ∷ lines) s
    of (inl k) d = inl (record {
      before = line ∷ k.before;
      opening = k.opening;
      since = k.since;
      id = k.id;
      split = ap (λ (l : List (List ℕ)). line ∷ l) k.split;
      opens = k.opens;
      latest = k.latest;
    })
    of (inr n) (inl o) = inl (record { before = []; opening = line; since = lines; id = o.0; split = refl; opens = o.1; latest = n })
    of (inr n) (inr h) = inr (never n h)

-- ---- a record comes behind an opening

opened-before : (before : List (List ℕ)) (line : List ℕ) (s : Socket) → RecordsAt (after_all at_first before) line s → (id : ℕ) × LatestOpening before s id
opened-before before line s r =
    let t = every-record before line r.row r.writes (ap is_record_word r.is_record) in
    let e : F.Decimal t.socket.0 ≡ F.Decimal s.0 = sym (ap (λ (x : Row). x.origin.socket) t.shown) ∙ r.socket in
    let q : t.socket.0 ≡ s.0 = cc in
    let same : t.socket ≡ s = λ i. record { 0 = q i } in
    (t.id, subst (λ (u : Socket). LatestOpening before u t.id) same t.opened)

-- ---- what the stock says

same-all : (n i : ℕ) → get_or (replicate n K.Unopened) i K.Unopened ≡ K.Unopened
same-all zero i = refl
same-all (suc n) zero = refl
same-all (suc n) (suc i) = same-all n i

module _ (lines : List (List ℕ)) (s : Socket) (numbered : is_socket s 8 ≡ true) where
  abbrev end : Import
  end = after_all at_first lines

  some : 1 ≤ s.0
  some = leb-true 1 s.0 (both_hold {a = leb 1 s.0} numbered).0

  never-stock : NeverOpened lines s → stock_in end s ≡ K.Unopened
  never-stock h = of (stock-after-all at_first lines s some)
    where
      of : StockAfterAll at_first lines s → stock_in end s ≡ K.Unopened
      of (unchanged e) = e ∙ same-all 8 (socket_place s)
      of (opened_in k) = absurd (h k.front k.opening k.rest k.split k.id k.opens)
      of (recorded_in c was now k) =
          let w = opened-before k.front k.line s k.records in
          let o = w.1 in
          let e : lines ≡ o.before ++ (o.opening ∷ (o.since ++ (k.line ∷ k.rest))) =
          k.split ∙ ap (λ (l : List (List ℕ)). l ++ (k.line ∷ k.rest)) o.split ∙ append_assoc o.before (o.opening ∷ o.since) (k.line ∷ k.rest) in
          absurd (h o.before o.opening _ e w.0 o.opens)

  -- since an opening
  module _ (id : ℕ) (o : LatestOpening lines s id) where
    abbrev m : Import
    m = after_all at_first o.before

    abbrev behind : Import
    behind = after m o.opening

    here : (front : List (List ℕ)) → after_all at_first (o.before ++ (o.opening ∷ front)) ≡ after_all behind front
    here front = after-lines at_first o.before (o.opening ∷ front)

    at-end : end ≡ after_all behind o.since
    at-end = ap (after_all at_first) o.split ∙ here o.since

    -- no other opening since
    no_other : OpenedIn behind o.since s → ⊥
    no_other k = o.latest k.front k.opening k.rest k.split k.id (rw (here k.front) k.opens)

    first-missing : stock_in behind s ≡ K.Missing
    first-missing =
        let old = m.log.tray.stock in
        let below : socket_place s < length old = omega (arith, place-below s 8 numbered, stock-counts at_first o.before) in
        ap (λ (x : Step). stock_at x.tray (socket_place s)) (opened-step m o.opening s id o.opens).1
        ∙ get_or-set_same old (socket_place s) K.Missing K.Unopened below

    -- missing, or recorded since
    data Since : Type 0 where
      is_missing : stock_in end s ≡ K.Missing → Since
      is_since : (c : Capabilities) → RecordedSince o c → Since

    since : Since
    since = of (stock-after-all behind o.since s some)
      where
        of : StockAfterAll behind o.since s → Since
        of (unchanged e) = is_missing (ap (λ (n : Import). stock_in n s) at-end ∙ e ∙ first-missing)
        of (opened_in k) = absurd (no_other k)
        of (recorded_in c was now k) =
            let w : (r : RecordsAt (after_all at_first (o.before ++ (o.opening ∷ k.front))) k.line s) × (r.row.stated ≡ Some c) =
            rw (here k.front) (k.records, k.stated) in
            is_since c (record { between = k.front; line = k.line; rest = k.rest; split = k.split; records = w.0; stated = w.1 })

    -- a record since stays
    stays : (c : Capabilities) → RecordedSince o c → is_recorded (stock_in end s) ≡ true
    stays c r =
        let x = fresh (o.before ++ (o.opening ∷ r.between)) r.line s r.records in
        of x (stock-after-all n r.rest s some)
      where
        n : Import
        n = after (after_all at_first (o.before ++ (o.opening ∷ r.between))) r.line

        there : n ≡ after (after_all behind r.between) r.line
        there = ap (λ (k : Import). after k r.line) (here r.between)

        all : end ≡ after_all n r.rest
        all = at-end ∙ ap (after_all behind) r.split ∙ after-lines behind r.between (r.line ∷ r.rest)
            ∙ ap (λ (k : Import). after_all k r.rest) (sym there)

        later : OpenedIn n r.rest s → OpenedIn behind o.since s
        later k = record {
          front = r.between ++ (r.line ∷ k.front);
          opening = k.opening;
          rest = k.rest;
          id = k.id;
          split = r.split ∙ ap (λ (l : List (List ℕ)). r.between ++ (r.line ∷ l)) k.split
              ∙ sym (append_assoc r.between (r.line ∷ k.front) (k.opening ∷ k.rest));
          opens = subst (λ (x : Import). Opens x k.opening s k.id)
              (ap (λ (x : Import). after_all x k.front) there ∙ sym (after-lines behind r.between (r.line ∷ k.front))) k.opens;
        }

        of : Fresh (after_all at_first (o.before ++ (o.opening ∷ r.between))) r.line s → StockAfterAll n r.rest s → is_recorded (stock_in end s) ≡ true
        of x (unchanged e) = ap (λ (k : Import). is_recorded (stock_in k s)) all ∙ ap is_recorded e ∙ x.now
        of x (opened_in k) = absurd (no_other (later k))
        of x (recorded_in d was now k) = absurd (false≢true (sym was ∙ x.now))

  -- ---- the three

  data Status : Type 0 where
    is_unopened : NeverOpened lines s → stock_in end s ≡ K.Unopened → Status
    is_missing : NoRecordSince lines s → stock_in end s ≡ K.Missing → Status
    has_record : HasRecord lines s → is_recorded (stock_in end s) ≡ true → Status

  status : Status
  status = of (latest-in at_first lines s)
    where
      behind-opening : (id : ℕ) (o : LatestOpening lines s id) → Since id o → Status
      behind-opening id o (is_missing e) =
          is_missing (record { id = id; opened = o; none = λ c r. false≢true (sym (ap is_recorded e) ∙ stays id o c r) }) e
      behind-opening id o (is_since c r) = has_record (record { id = id; opened = o; fields = c; recorded = r }) (stays id o c r)

      of : LatestIn at_first lines s ⊎ NeverIn at_first lines s → Status
      of (inl k) =
          let o : LatestOpening lines s k.id = record {
            before = k.before;
            opening = k.opening;
            since = k.since;
            split = k.split;
            opens = k.opens;
            latest = λ between line rest e other w.
                k.latest between line rest e other (rw (after-lines at_first k.before (k.opening ∷ between)) at w);
          } in
          behind-opening k.id o (since k.id o)
      of (inr n) = is_unopened n (never-stock n)

-- the word of a report, if it has one
abbrev word_in : Option Row → Word
word_in None = W.End
word_in (Some row) = row.what

-- THE SOCKETS AFTER THE LAST LINE
pub sockets-told : SocketsTold
sockets-told lines s numbered = record {
  unopened = (λ e. if-unopened (status lines s numbered) e, λ h. ap told-by (never-stock lines s numbered h));
  missing = (λ e. if-missing (status lines s numbered) e, λ k. then-missing k (since lines s numbered k.id k.opened));
  nothing = (λ e. if-nothing (status lines s numbered) e, λ k. recorded-nothing stock (stays lines s numbered k.id k.opened k.fields k.recorded));
}
  where
    stock : Stock
    stock = stock_in (after_all at_first lines) s

    told-by : Stock → Option Row
    told-by k = last_by k s

    recorded-nothing : (k : Stock) → is_recorded k ≡ true → told-by k ≡ None
    recorded-nothing K.Unopened e = absurd (false≢true e)
    recorded-nothing K.Missing e = absurd (false≢true e)
    recorded-nothing (K.Recorded c) e = refl

    -- no two of the reports are the same
    other : {a b : Option Row} → report_of lines s ≡ a → report_of lines s ≡ b → word_in a ≡ word_in b
    other p q = ap word_in (sym p ∙ q)

    if-unopened : Status lines s numbered → report_of lines s ≡ Some (socket_row W.Unopened s) → NeverOpened lines s
    if-unopened (is_unopened h e) q = h
    if-unopened (is_missing h e) q =
        let w : W.Missing ≡ W.Unopened = other (ap told-by e) q in
        let z : ◌≡◌ {A = ℕ} 0 1 = cc in absurd (omega arith)
    if-unopened (has_record h e) q =
        let w : W.End ≡ W.Unopened = other (recorded-nothing stock e) q in
        let z : ◌≡◌ {A = ℕ} 0 1 = cc in absurd (omega arith)

    if-missing : Status lines s numbered → report_of lines s ≡ Some (socket_row W.Missing s) → NoRecordSince lines s
    if-missing (is_unopened h e) q =
        let w : W.Unopened ≡ W.Missing = other (ap told-by e) q in
        let z : ◌≡◌ {A = ℕ} 0 1 = cc in absurd (omega arith)
    if-missing (is_missing h e) q = h
    if-missing (has_record h e) q =
        let w : W.End ≡ W.Missing = other (recorded-nothing stock e) q in
        let z : ◌≡◌ {A = ℕ} 0 1 = cc in absurd (omega arith)

    if-nothing : Status lines s numbered → report_of lines s ≡ None → HasRecord lines s
    if-nothing (is_unopened h e) q =
        let w : W.Unopened ≡ W.End = other (ap told-by e) q in
        let z : ◌≡◌ {A = ℕ} 0 1 = cc in absurd (omega arith)
    if-nothing (is_missing h e) q =
        let w : W.Missing ≡ W.End = other (ap told-by e) q in
        let z : ◌≡◌ {A = ℕ} 0 1 = cc in absurd (omega arith)
    if-nothing (has_record h e) q = h

    then-missing : (k : NoRecordSince lines s) → Since lines s numbered k.id k.opened → report_of lines s ≡ Some (socket_row W.Missing s)
    then-missing k (is_missing e) = ap told-by e
    then-missing k (is_since c r) = absurd (k.none c r)
