-- The promises of `specs/Records.antt`.
use Prim.Native.Nat.{ℕ, suc, ◌+◌, ◌*◌, ◌≤◌, ◌<◌}
use native.Mathlib.Omega.{arith}
use mathlib.Core.Bool.{true, false≢true}
use mathlib.Core.List.{List, [], ◌∷◌, ◌++◌}
use mathlib.Core.Logic.{◌≢◌, ◌↔◌}
use mathlib.Core.Path.{◌≡◌, refl, sym, ap, ◌∙◌, subst}
use lib.Dec.{eqb}
use lib.ListN.{length, get_or}
use lib.Seq.{get_or-take}
use borrow.Author.Tests.{eqb-true, eq-eqb}
use Rattle.std.specs.Prelude.{Ok, None, Some}
use Rattle.octets.specs.Cut.{piece, up_to}
use Rattle.octets.specs.Parts.{part}
use Rattle.octets.proofs.Tests.{cases, both_hold}
use Rattle.hexadecimal.specs.Hex.{octets_of}
use Rattle.transactions.specs.Numbers.{socket_place}
use Rattle.transactions.specs.Segments.{seg_n}
use Rattle.transactions.specs.declared.Socket.{Socket}
use Rattle.transactions.specs.declared.TransactionNumber.{TransactionNumber}
use Rattle.pb_adv.specs.Frame.{parsed, segment_octets}
use Rattle.pb_adv_writing.specs.Writing.{header_of, segment_frame, message_frames}
use Rattle.links.specs.Links.{provisioner}
use Rattle.links.specs.Station.{received}
use Rattle.links.proofs.Frames.{in_cut}
use Rattle.provisioning.specs.Message.{message_read, told}
use Rattle.provisioning.specs.declared.Capabilities.{Capabilities}
use Rattle.provisioning.specs.declared.Message.TheVariants as M
use Rattle.provisioning.proofs.Promises.{capabilities-in-place}
use Rattle.line_fields.specs.declared.Word.{Word}
use Rattle.line_fields.specs.declared.Word.TheVariants as W
use Rattle.line_fields.specs.declared.Field.TheVariants as F
use Rattle.std.specs.Prelude.{Some}
use Rattle.stock_table.specs.Rows.{record_row, message_row}
use Rattle.stock_table.specs.declared.Origin.{Origin}
use Rattle.stock_table.specs.declared.Row.{Row}
use Rattle.import_tray.specs.declared.Stock.TheVariants as K
use Rattle.import_messages.specs.Messages.{reading_of, same_fields, further_word}
use Rattle.import_frames.specs.Origins.{frame_origin}
use Rattle.import_log.specs.Logs.{Import, after, after_all, at_first, number_in}
use Rattle.import_log.specs.Records.{LatestOpening, message_origin, fields_of, is_record_word, IsTrue, EveryRecord, RecordsAt, OpenedBetween, OneRecord, RecordedSince, FurtherIsTrue, EveryFurther, MessageIsTrue, EveryMessage}
use Rattle.import_log.proofs.Operations.{station_in, after-lines}
use Rattle.import_log.proofs.Rows.{Delivered, read_from, origin_from, is_recorded, Written, is_record, is_further, is_message, is_refusal, line_writes}
use Rattle.import_log.proofs.Came.{Came, came}
use Rattle.import_log.proofs.Stock.{stock_in, origin-socket, opened-empty, StockAfterAll, unchanged, opened_in, recorded_in, stock-after-all, Fresh, fresh}

-- ---- a Capabilities message

-- by the values that are told of it
abbrev fields_in : List ℕ → Capabilities
fields_in v = record {
  elements = get_or v 0 0;
  algorithms = get_or v 1 0;
  public_key_type = get_or v 2 0;
  static_oob_type = get_or v 3 0;
  output_oob_size = get_or v 4 0;
  output_oob_action = get_or v 5 0;
  input_oob_size = get_or v 6 0;
  input_oob_action = get_or v 7 0;
}

pub capabilities-read : (m : List ℕ) (c : Capabilities) → message_read m ≡ Ok (M.Capabilities c) → (length m ≡ 12) × (c ≡ fields_of m)
capabilities-read m c e = let w = capabilities-in-place m _ (ap told e) in (w.long, ap fields_in w.fields)

-- twelve octets are one frame, behind nine
module _ (id : ℕ) (t : TransactionNumber) (m : List ℕ) (long : length m ≡ 12) where
  one-frame : message_frames id t m ≡ segment_frame id t m 0 ∷ []
  unfolding up_to
  one-frame = rw long

  behind-header : (i : ℕ) → i < 12 → get_or m i 0 ≡ get_or (segment_frame id t m 0) (9 + i) 0
  unfolding segment_frame segment_octets header_of piece
  behind-header i h =
      let q : 9 + i ≡ suc (suc (suc (suc (suc (suc (suc (suc (suc i)))))))) = omega arith in
      rw (q, long) (sym (get_or-take 12 m i 0 h))

-- ---- what a line writes

module _ (before : List (List ℕ)) (line : List ℕ) (row : Row) where
  abbrev m : Import
  m = after_all at_first before

  -- a message that the line delivers
  module _ (d : Delivered m line) where
    c : Came before line d.is_hexadecimal (station_in m) d.long d.number
    c = came before line d.is_hexadecimal d.long d.number d.answer

    place : d.place ≡ socket_place c.socket
    place = let p = d.is_for in let q = c.is_for in cc

    read : message_read c.octets ≡ read_from m line d
    read =
        let area = (received provisioner (station_in m) (octets_of line)).1.area in
        sym (ap (λ (i : ℕ). message_read (part area (1469 * i) d.long)) place ∙ ap message_read c.stands)

    origin : origin_from m line d ≡ message_origin c.socket c.id d.number
    origin = ap (λ (i : ℕ). frame_origin (Some i) (parsed (octets_of line))) place ∙ c.origin

    is_true_lem : (word : Word) (fields : Capabilities) → read_from m line d ≡ Ok (M.Capabilities fields)
        → row ≡ record_row word (number_in m) (origin_from m line d) fields → IsTrue before line row
    is_true_lem word fields e q =
        let what : word ≡ row.what = sym (ap (λ (r : Row). r.what) q) in
        let w = capabilities-read c.octets fields (read ∙ e) in
        let first : c.index ≡ 0 = let b : c.index ≤ seg_n 12 = rw w.0 at c.inside in omega arith in
        let frame : octets_of line ≡ segment_frame c.id d.number c.octets 0 = c.frame ∙ ap (segment_frame c.id d.number c.octets) first in
        record {
          socket = c.socket;
          id = c.id;
          number = d.number;
          octets = c.octets;
          is_hexadecimal = d.is_hexadecimal;
          frame = frame;
          alone = one-frame c.id d.number c.octets w.0 ∙ ap (λ (f : List ℕ). f ∷ []) (sym frame);
          opened = c.opened;
          accepted = read ∙ e ∙ ap (λ (x : Capabilities). Ok (M.Capabilities x)) w.1;
          long = w.0;
          places = λ i h. rw frame (behind-header c.id d.number c.octets w.0 i h);
          shown = q ∙ λ i. record_row (what i) (number_in m) (origin i) (w.1 i);
        }

    message-is-true : reading_of (read_from m line d) ≡ Ok None
        → row ≡ message_row (number_in m) (origin_from m line d) (read_from m line d) → MessageIsTrue before line row
    message-is-true a q = record {
      socket = c.socket;
      id = c.id;
      number = d.number;
      octets = c.octets;
      is_hexadecimal = d.is_hexadecimal;
      opened = c.opened;
      cut = c.cut;
      last = rw c.frame (in_cut c.id d.number c.octets (suc (seg_n (length c.octets))) c.index (omega (arith, c.inside)));
      accepted = ap reading_of read ∙ a;
      shown = q ∙ ap (λ (o : Origin). message_row (number_in m) o (read_from m line d)) origin
          ∙ ap (message_row (number_in m) (message_origin c.socket c.id d.number)) (sym read);
    }

-- EVERY RECORD IS TRUE
pub every-record : EveryRecord
every-record before line row e w = of (line_writes (after_all at_first before) line row e)
  where
    of : Written (after_all at_first before) line row → IsTrue before line row
    of (is_record d c u was now q) = is_true_lem before line row d W.Record c u q
    of (is_further d c first u g q) = is_true_lem before line row d (further_word first c) c u q
    of (is_message d u q) = absurd (false≢true (rw q at w))
    of (is_refusal q) = absurd (false≢true (rw q at w))

-- ONE RECORD FOR AN OPENING
pub one-record : OneRecord
one-record before first between second s a b =
    let x = fresh before first s a in
    of x (fresh (before ++ (first ∷ between)) second s b) (stock-after-all m between s x.some)
  where
    m : Import
    m = after (after_all at_first before) first

    here : (lines : List (List ℕ)) → after_all at_first ((before ++ (first ∷ [])) ++ lines) ≡ after_all m lines
    here lines = after-lines at_first (before ++ (first ∷ [])) lines ∙ ap (λ (n : Import). after_all n lines) (after-lines at_first before (first ∷ []))

    of : Fresh (after_all at_first before) first s → Fresh (after_all at_first (before ++ (first ∷ between))) second s → StockAfterAll m between s
        → OpenedBetween (before ++ (first ∷ [])) between s
    of x y (unchanged k) =
        let e : after_all at_first (before ++ (first ∷ between)) ≡ after_all m between = after-lines at_first before (first ∷ between) in
        absurd (false≢true (sym y.was ∙ ap (λ (n : Import). is_recorded (stock_in n s)) e ∙ ap is_recorded k ∙ x.now))
    of x y (opened_in k) =
        record { front = k.front; opening = k.opening; rest = k.rest; id = k.id; split = k.split; opens = rw (here k.front) k.opens }
    of x y (recorded_in c was now k) = absurd (false≢true (sym was ∙ x.now))

-- ---- a further message

-- the record since the latest opening
module _ (lines : List (List ℕ)) (s : Socket) (id : ℕ) (o : LatestOpening lines s id) (some : 1 ≤ s.0) (c : Capabilities)
    (has : stock_in (after_all at_first lines) s ≡ K.Recorded c) where
  -- behind the opening
  abbrev behind : Import
  behind = after (after_all at_first o.before) o.opening

  here : (front : List (List ℕ)) → after_all at_first (o.before ++ (o.opening ∷ front)) ≡ after_all behind front
  here front = after-lines at_first o.before (o.opening ∷ front)

  now : stock_in (after_all behind o.since) s ≡ K.Recorded c
  now = subst (λ (n : Import). stock_in n s ≡ K.Recorded c) (ap (after_all at_first) o.split ∙ here o.since) has

  recorded-since : RecordedSince o c
  recorded-since = of (stock-after-all behind o.since s some)
    where
      of : StockAfterAll behind o.since s → RecordedSince o c
      of (unchanged e) = absurd (false≢true (sym (opened-empty (after_all at_first o.before) o.opening s id o.opens) ∙ ap is_recorded (sym e ∙ now)))
      of (opened_in k) = absurd (o.latest k.front k.opening k.rest k.split k.id (rw (here k.front) k.opens))
      of (recorded_in d was is k) =
          let same : d ≡ c = let e = sym is ∙ now in cc in
          let w : (r : RecordsAt (after_all at_first (o.before ++ (o.opening ∷ k.front))) k.line s) × (r.row.stated ≡ Some c) =
          rw (here k.front) (k.records, k.stated ∙ ap Some same) in
          record { between = k.front; line = k.line; rest = k.rest; split = k.split; records = w.0; stated = w.1 }

-- "the same eight fields" are the same
module _ (a b : Capabilities) where
  same-fields : same_fields a b ≡ true → a ≡ b
  unfolding same_fields
  same-fields e =
      let e1 = both_hold {a = eqb a.elements b.elements} e in
      let e2 = both_hold {a = eqb a.algorithms b.algorithms} e1.1 in
      let e3 = both_hold {a = eqb a.public_key_type b.public_key_type} e2.1 in
      let e4 = both_hold {a = eqb a.static_oob_type b.static_oob_type} e3.1 in
      let e5 = both_hold {a = eqb a.output_oob_size b.output_oob_size} e4.1 in
      let e6 = both_hold {a = eqb a.output_oob_action b.output_oob_action} e5.1 in
      let e7 = both_hold {a = eqb a.input_oob_size b.input_oob_size} e6.1 in
      λ i. record {
        elements = eqb-true a.elements b.elements e1.0 i;
        algorithms = eqb-true a.algorithms b.algorithms e2.0 i;
        public_key_type = eqb-true a.public_key_type b.public_key_type e3.0 i;
        static_oob_type = eqb-true a.static_oob_type b.static_oob_type e4.0 i;
        output_oob_size = eqb-true a.output_oob_size b.output_oob_size e5.0 i;
        output_oob_action = eqb-true a.output_oob_action b.output_oob_action e6.0 i;
        input_oob_size = eqb-true a.input_oob_size b.input_oob_size e7.0 i;
        input_oob_action = eqb-true a.input_oob_action b.input_oob_action e7.1 i;
      }

eqb_same : (n : ℕ) → eqb n n ≡ true
eqb_same n = eq-eqb n n refl

fields-same : (a : Capabilities) → same_fields a a ≡ true
unfolding same_fields
fields-same a = simp eqb_same

-- what a word tells of fields behind a record's
abbrev Tells : Word → Capabilities → Capabilities → Type 0
Tells word first c = ((word ≡ W.Repeated) ↔ (c ≡ first)) × ((word ≡ W.Conflict) ↔ (c ≢ first))

further-tells : (first c : Capabilities) → Tells (further_word first c) first c
further-tells first c =
    cases (same_fields first c)
    (λ g. let q : c ≡ first = sym (same-fields first c g) in
    rw g ((λ e. q, λ e. refl), (λ e. let z : ◌≡◌ {A = ℕ} 0 1 = cc in absurd (omega arith), λ h. absurd (h q))))
    (λ g. let h : c ≢ first = λ q. false≢true (sym g ∙ ap (same_fields first) q ∙ fields-same first) in
    rw g ((λ e. let z : ◌≡◌ {A = ℕ} 0 1 = cc in absurd (omega arith), λ q. absurd (h q)), (λ e. h, λ e. refl)))

fields-are : (a b : Capabilities) → Some a ≡ Some b → a ≡ b
fields-are a b e = cc

decimal-is : (a b : ℕ) → F.Decimal a ≡ F.Decimal b → a ≡ b
decimal-is a b e = cc

-- EVERY FURTHER ROW IS TRUE
pub every-further : EveryFurther
every-further before line row e w other = of (every-record before line row e w) (line_writes (after_all at_first before) line row e)
  where
    of : IsTrue before line row → Written (after_all at_first before) line row → FurtherIsTrue before line row
    of t (is_record d c u was now q) = absurd (other (ap (λ (r : Row). r.what) q))
    of t (is_further d c first u g q) =
        let what : further_word first c ≡ row.what = sym (ap (λ (r : Row). r.what) q) in
        let fields : c ≡ fields_of t.octets = fields-are c _ (ap (λ (r : Row). r.stated) (sym q ∙ t.shown)) in
        let from : F.Decimal t.socket.0 ≡ F.Decimal (d.place + 1) =
        ap (λ (r : Row). r.origin.socket) (sym t.shown ∙ q)
        ∙ origin-socket (after_all at_first before).log.tray.links d.place (parsed (octets_of line)) d.is_for in
        let number : t.socket.0 ≡ d.place + 1 = decimal-is _ _ from in
        let place : d.place ≡ socket_place t.socket = omega arith in
        let tells = subst (λ (x : Capabilities). Tells row.what first x) fields (subst (λ (u : Word). Tells u first c) what (further-tells first c)) in
        record {
          is_true = t;
          fields = first;
          recorded = recorded-since before t.socket t.id t.opened (omega arith) first (rw (← place) g);
          repeated = tells.0;
          conflict = tells.1;
        }
    of t (is_message d u q) = absurd (false≢true (rw q at w))
    of t (is_refusal q) = absurd (false≢true (rw q at w))

further-row : (first c : Capabilities) → is_record_word (further_word first c) ≡ true
further-row first c = cases (same_fields first c) (λ g. rw g) (λ g. rw g)

-- EVERY MESSAGE ROW IS TRUE
pub every-message : EveryMessage
every-message before line row e w = of (line_writes (after_all at_first before) line row e)
  where
    of : Written (after_all at_first before) line row → MessageIsTrue before line row
    of (is_record d c u was now q) = let what = sym (ap (λ (r : Row). r.what) q) ∙ w in let z : ◌≡◌ {A = ℕ} 0 1 = cc in absurd (omega arith)
    of (is_further d c first u g q) = absurd (false≢true (ap (λ (v : Word). is_record_word v) (sym w ∙ ap (λ (r : Row). r.what) q) ∙ further-row first c))
    of (is_message d u q) = message-is-true before line row d u q
    of (is_refusal q) = let z : ◌≡◌ {A = ℕ} 0 1 = cc in absurd (omega arith)
