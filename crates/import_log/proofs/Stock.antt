-- The stock of a socket: what a line does to it, and lines; and that a `record` row finds nothing recorded.
use Prim.Native.Nat.{ℕ, zero, suc, ◌+◌, ◌≤◌, ◌<◌}
use Rattle.pb_adv.specs.declared.Frame.{Frame}
use Rattle.pb_adv.specs.declared.FrameRefusal.{FrameRefusal}
use native.Mathlib.Omega.{arith}
use mathlib.Core.Bool.{true, false, false≢true}
use mathlib.Core.List.{List, [], ◌∷◌, ◌++◌}
use mathlib.Core.Logic.{◌≢◌}
use mathlib.Core.Path.{◌≡◌, refl, sym, ap, ◌∙◌, subst}
use lib.Dec.{eqb, leb}
use lib.ListN.{length, get_or, set}
use lib.Seq.{get_or-set_same, get_or-set_other, set_out}
use borrow.Author.Tests.{eqb-true, eqb-false, leb-true, leb-false}
use Rattle.octets.proofs.Tests.{cases, both_hold}
use Rattle.hexadecimal.specs.Hex.{octets_of}
use Rattle.transactions.specs.Numbers.{is_socket, socket_place}
use Rattle.transactions.specs.declared.Socket.{Socket}
use Rattle.pb_adv.specs.Frame.{parsed}
use Rattle.pb_adv.specs.declared.Frame.TheVariants as P
use Rattle.links.specs.Links.{provisioner}
use Rattle.links.specs.Promises.{addressed}
use Rattle.links.specs.declared.Link.{Link}
use Rattle.provisioning.specs.declared.Capabilities.{Capabilities}
use Rattle.line_fields.specs.declared.Word.TheVariants as W
use Rattle.line_fields.specs.declared.Field.TheVariants as F
use Rattle.std.specs.Prelude.{Some, Result, Ok, Err}
use Rattle.stock_table.specs.declared.Row.{Row}
use Rattle.import_tray.specs.Trays.{stock_at}
use Rattle.import_tray.specs.declared.Stock.{Stock}
use Rattle.import_tray.specs.declared.Stock.TheVariants as K
use Rattle.import_tray.specs.declared.Step.{Step}
use Rattle.import_messages.specs.Messages.{same_fields, further_word}
use Rattle.import_frames.specs.Origins.{frame_origin}
use Rattle.import_log.specs.Logs.{Import, step_of, after, after_all, at_first}
use Rattle.import_log.specs.Records.{Opens, RecordsAt}
use Rattle.import_log.proofs.Operations.{station_in, frame-octets, opening-socket, right}
use Rattle.import_log.proofs.Deliveries.{delivers}
use Rattle.import_log.proofs.Rows.{Delivered, Says, quiet, opens, tells, says, opened as opened-step, is_recorded, records, compares, shows, refuses, BecomesOf, becomes-of, Written, is_record, is_further, is_message, is_refusal, line_writes, stock-counts}

abbrev pub stock_in : Import → Socket → Stock
stock_in m s = stock_at m.log.tray (socket_place s)

same-socket : (s t : Socket) → 1 ≤ s.0 → 1 ≤ t.0 → socket_place s ≡ socket_place t → s ≡ t
same-socket s t a b e = let q : s.0 ≡ t.0 = omega arith in λ i. record { 0 = q i }

-- the socket that a row of a message shows
pub origin-socket : (ls : List Link) (s : ℕ) (p : Result Frame FrameRefusal) → addressed provisioner ls p ≡ Some s → (frame_origin (Some s) p).socket ≡ F.Decimal (s + 1)
origin-socket ls s (Ok (P.Segment g)) e = refl
origin-socket ls s (Ok (P.Acknowledgement id t)) e = refl
origin-socket ls s (Ok (P.Open id uuid)) e = refl
origin-socket ls s (Ok (P.Ack id)) e = refl
origin-socket ls s (Ok (P.Close id reason)) e = refl
origin-socket ls s (Err r) e = let z : ◌≡◌ {A = ℕ} 0 1 = cc in absurd (omega arith)

-- ---- a line

-- it leaves what the table has of a socket, opens the socket, or delivers the message that becomes its record
pub data StockAfter (m : Import) (line : List ℕ) (s : Socket) (new : Stock) : Type 0 where
  same : new ≡ stock_in m s → StockAfter m line s new
  opened : (id : ℕ) → Opens m line s id → StockAfter m line s new
  recorded : (c : Capabilities) → is_recorded (stock_in m s) ≡ false → new ≡ K.Recorded c → (d : Delivered m line) → d.place ≡ socket_place s
      → (r : RecordsAt m line s) → r.row.stated ≡ Some c → StockAfter m line s new

pub stock-after : (m : Import) (line : List ℕ) (s : Socket) → 1 ≤ s.0 → StockAfter m line s (stock_in (after m line) s)
stock-after m line s some = of (says m line)
  where
    old : List Stock
    old = m.log.tray.stock

    p : ℕ
    p = socket_place s

    new : {stock : List Stock} → (after m line).log.tray.stock ≡ stock → stock_in (after m line) s ≡ get_or stock p K.Unopened
    new e = ap (λ (l : List Stock). get_or l p K.Unopened) e

    of-message : (d : Delivered m line) → BecomesOf m line d (step_of m.log m.area line) → StockAfter m line s (stock_in (after m line) s)
    of-message d (records c u g e) =
        let j = d.place in
        let stock = ap (λ (x : Step). x.tray.stock) e in
        cases (eqb j p)
        (λ h. let q : j ≡ p = eqb-true j p h in
        cases (leb (length old) j)
        (λ b. same (new (stock ∙ set_out old j (K.Recorded c) (leb-true (length old) j b))))
        (λ b. recorded c (rw (← q) g)
        (new stock ∙ rw (← q) (get_or-set_same old j (K.Recorded c) K.Unopened (leb-false (length old) j b)))
        d q
        (record {
          row = _;
          writes = ap (λ (x : Step). x.report) e;
          is_record = refl;
          socket = origin-socket m.log.tray.links j (parsed (octets_of line)) d.is_for ∙ ap F.Decimal (omega arith);
        })
        refl))
        (λ h. same (new stock ∙ get_or-set_other old j p (K.Recorded c) K.Unopened (λ z. eqb-false j p h (sym z))))
    of-message d (compares c first u g e) = same (new (ap (λ (x : Step). x.tray.stock) e))
    of-message d (shows u e) = same (new (ap (λ (x : Step). x.tray.stock) e))
    of-message d (refuses n e) = same (new (ap (λ (x : Step). x.tray.stock) e))

    of : Says m line (step_of m.log m.area line) → StockAfter m line s (stock_in (after m line) s)
    of (quiet q) = same (new q.same)
    of (opens t id w e) =
        let n : is_socket t 8 ≡ true = subst (λ (u : Socket). is_socket u 8 ≡ true) w.socket (opening-socket line w.form) in
        cases (eqb (socket_place t) p)
        (λ g. opened id (subst (λ (u : Socket). Opens m line u id)
        (same-socket t s (leb-true 1 t.0 (both_hold {a = leb 1 t.0} n).0) some (eqb-true (socket_place t) p g)) w))
        (λ g. same (new (ap (λ (x : Step). x.tray.stock) e)
        ∙ get_or-set_other old (socket_place t) p K.Missing K.Unopened (λ z. eqb-false (socket_place t) p g (sym z))))
    of (tells d q) = of-message d (becomes-of m line d q)

-- nothing is recorded behind an opening
missing_at : (l : List Stock) (i : ℕ) → is_recorded (get_or (set l i K.Missing) i K.Unopened) ≡ false
missing_at [] i = refl
missing_at (x ∷ l) zero = refl
missing_at (x ∷ l) (suc i) = missing_at l i

pub opened-empty : (m : Import) (line : List ℕ) (s : Socket) (id : ℕ) → Opens m line s id → is_recorded (stock_in (after m line) s) ≡ false
opened-empty m line s id o =
    ap (λ (x : Step). is_recorded (stock_at x.tray (socket_place s))) (opened-step m line s id o).1 ∙ missing_at m.log.tray.stock (socket_place s)

-- ---- lines

-- an opening of a socket among lines
pub record OpenedIn (m : Import) (lines : List (List ℕ)) (s : Socket) : Type 0 where
  pub front : List (List ℕ)
  pub opening : List ℕ
  pub rest : List (List ℕ)
  pub id : ℕ
  pub split : lines ≡ front ++ (opening ∷ rest)
  pub opens : Opens (after_all m front) opening s id

-- a record of a socket among lines
pub record RecordedIn (m : Import) (lines : List (List ℕ)) (s : Socket) (c : Capabilities) : Type 0 where
  pub front : List (List ℕ)
  pub line : List ℕ
  pub rest : List (List ℕ)
  pub split : lines ≡ front ++ (line ∷ rest)
  pub records : RecordsAt (after_all m front) line s
  pub stated : records.row.stated ≡ Some c

-- lines leave what the table has of a socket, open the socket, or record it where nothing was recorded
pub data StockAfterAll (m : Import) (lines : List (List ℕ)) (s : Socket) : Type 0 where
  unchanged : stock_in (after_all m lines) s ≡ stock_in m s → StockAfterAll m lines s
  opened_in : OpenedIn m lines s → StockAfterAll m lines s
  recorded_in : (c : Capabilities) → is_recorded (stock_in m s) ≡ false → stock_in (after_all m lines) s ≡ K.Recorded c → RecordedIn m lines s c
      → StockAfterAll m lines s

pub stock-after-all : (m : Import) (lines : List (List ℕ)) (s : Socket) → 1 ≤ s.0 → StockAfterAll m lines s
stock-after-all m [] s some = unchanged refl
stock-after-all m (line ∷ lines) s some = of (stock-after m line s some) (stock-after-all (after m line) lines s some)
  where
    later : OpenedIn (after m line) lines s → OpenedIn m (line ∷ lines) s
    later k = record {
      front = line ∷ k.front;
      opening = k.opening;
      rest = k.rest;
      id = k.id;
      split = ap (λ (l : List (List ℕ)). line ∷ l) k.split;
      opens = k.opens;
    }

    later-record : {c : Capabilities} → RecordedIn (after m line) lines s c → RecordedIn m (line ∷ lines) s c
    later-record k = record {
      front = line ∷ k.front;
      line = k.line;
      rest = k.rest;
      split = ap (λ (l : List (List ℕ)). line ∷ l) k.split;
      records = k.records;
      stated = k.stated;
    }

    of : StockAfter m line s (stock_in (after m line) s) → StockAfterAll (after m line) lines s → StockAfterAll m (line ∷ lines) s
    of (opened id w) r = opened_in (record { front = []; opening = line; rest = lines; id = id; split = refl; opens = w })
    of (same e) (unchanged g) = unchanged (g ∙ e)
    of (same e) (opened_in k) = opened_in (later k)
    of (same e) (recorded_in c was now k) = recorded_in c (rw (← e) was) now (later-record k)
    of (recorded c was now d at k q) (unchanged g) =
        recorded_in c was (g ∙ now) (record { front = []; line = line; rest = lines; split = refl; records = k; stated = q })
    of (recorded c was now d at k q) (opened_in l) = opened_in (later l)
    of (recorded c was now d at k q) (recorded_in c' was' now' k') = absurd (false≢true (sym was' ∙ ap is_recorded now))

-- ---- a `record` row

further-word : (first c : Capabilities) → further_word first c ≢ W.Record
further-word first c e =
    cases (same_fields first c)
    (λ g. let q : W.Repeated ≡ W.Record = rw g at e in let z : ◌≡◌ {A = ℕ} 0 1 = cc in absurd (omega arith))
    (λ g. let q : W.Conflict ≡ W.Record = rw g at e in let z : ◌≡◌ {A = ℕ} 0 1 = cc in absurd (omega arith))

-- a line that writes the record of a socket: nothing was recorded, and now it is
pub record Fresh (m : Import) (line : List ℕ) (s : Socket) : Type 0 where
  pub some : 1 ≤ s.0
  pub was : is_recorded (stock_in m s) ≡ false
  pub now : is_recorded (stock_in (after m line) s) ≡ true

pub fresh : (before : List (List ℕ)) (line : List ℕ) (s : Socket) → RecordsAt (after_all at_first before) line s → Fresh (after_all at_first before) line s
fresh before line s r = of (line_writes m line r.row r.writes)
  where
    m : Import
    m = after_all at_first before

    old : List Stock
    old = m.log.tray.stock

    what : {row : Row} → r.row ≡ row → row.what ≡ W.Record
    what e = sym (ap (λ (x : Row). x.what) e) ∙ r.is_record

    of : Written m line r.row → Fresh m line s
    of (is_record d c u was now q) =
        let j = d.place in
        let decimal : F.Decimal s.0 ≡ F.Decimal (j + 1) =
        sym r.socket ∙ ap (λ (x : Row). x.origin.socket) q ∙ origin-socket m.log.tray.links j (parsed (octets_of line)) d.is_for in
        let number : s.0 ≡ j + 1 = cc in
        let place : j ≡ socket_place s = omega arith in
        let below = (delivers (station_in m) (octets_of line) (frame-octets line d.is_hexadecimal) j d.long d.number d.is_for d.answer).below in
        let inside : j < length old = omega (arith, below, (right before).count, stock-counts at_first before) in
        record {
          some = omega arith;
          was = rw (← place) was;
          now = ap (λ (l : List Stock). is_recorded (get_or l (socket_place s) K.Unopened)) now
              ∙ rw (← place) (ap is_recorded (get_or-set_same old j (K.Recorded c) K.Unopened inside));
        }
    of (is_further d c first u g q) = absurd (further-word first c (what q))
    of (is_message d u q) = let w : W.Message ≡ W.Record = what q in let z : ◌≡◌ {A = ℕ} 0 1 = cc in absurd (omega arith)
    of (is_refusal q) = let w : W.Refused ≡ W.Record = sym q ∙ r.is_record in let z : ◌≡◌ {A = ℕ} 0 1 = cc in absurd (omega arith)
