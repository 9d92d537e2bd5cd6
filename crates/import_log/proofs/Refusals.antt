-- The promises of `specs/Refusals.antt`.
use Rattle.std.specs.Prelude.{None, Some, Option, Result, Ok, Err}
use Rattle.links.specs.declared.Answer.{Answer}
use Rattle.pb_adv.specs.declared.Frame.{Frame}
use Prim.Native.Nat.{ℕ, suc, ◌+◌, ◌*◌, ◌-◌, ◌%◌}
use native.Mathlib.Omega.{arith}
use mathlib.Core.Bool.{true, false, false≢true}
use mathlib.Core.List.{List, [], ◌∷◌}
use mathlib.Core.Path.{◌≡◌, refl, sym, ap, ◌∙◌}
use lib.Dec.{eqb, leb}
use lib.ListN.{length, get_or, drop}
use borrow.Author.Tests.{eqb-true, eq-eqb, ne_eqb, leb-true}
use Rattle.octets.specs.Parts.{part}
use Rattle.octets.proofs.Tests.{cases, both_hold}
use Rattle.hexadecimal.specs.Hex.{value_of, all_digits, is_hexadecimal, octets_of}
use Rattle.hexadecimal.proofs.Laws.{digit_at}
use Rattle.transactions.specs.declared.Socket.{Socket}
use Rattle.transactions.specs.declared.TransactionNumber.{TransactionNumber}
use Rattle.pb_adv.specs.Frame.{parsed, refusal_number as frame_number}
use Rattle.pb_adv.specs.declared.Frame.TheVariants as P
use Rattle.pb_adv.specs.declared.Segment.{Segment}
use Rattle.pb_adv.specs.declared.FrameRefusal.{FrameRefusal}
use Rattle.pb_adv.specs.declared.FrameRefusal.TheVariants.{Malformed, UnknownOpcode}
use Rattle.import_frames.specs.declared.Delivery.{Delivery}
use Rattle.links.specs.Links.{provisioner, blank_with, find, refusal_number, told}
use Rattle.links.specs.Good.{good}
use Rattle.links.specs.Station.{Station, no_link, is_found, on_frame, received, local_open, local_send, local_close}
use Rattle.links.specs.Promises.{addressed}
use Rattle.links.specs.declared.Side.TheVariants.{Provisioner}
use Rattle.links.specs.declared.Link.{Link}
use Rattle.links.specs.declared.Refusal.{Refusal}
use Rattle.links.specs.declared.LinkState.TheVariants as L
use Rattle.links.specs.declared.Answer.TheVariants as A
use Rattle.links.proofs.Local.{Calls, refusal, written, open-calls}
use Rattle.provisioning.specs.Message.{message_read, refusal_number as message_number}
use Rattle.provisioning.specs.declared.Message.{Message}
use Rattle.provisioning.specs.declared.MessageRefusal.{MessageRefusal}
use Rattle.line_fields.specs.declared.Field.TheVariants as F
use Rattle.stock_table.specs.Rows.{origin_of, unknown}
use Rattle.stock_table.specs.declared.Origin.{Origin}
use Rattle.stock_table.specs.declared.Row.{Row}
use Rattle.import_tray.specs.Trays.{station_of, with_links, row_after, nothing_after}
use Rattle.import_tray.specs.declared.Step.{Step}
use Rattle.import_tray.specs.declared.Tray.{Tray}
use Rattle.import_messages.specs.Messages.{message_step}
use Rattle.import_frames.specs.Origins.{delivery, outcome_of, socket_at, frame_origin}
use Rattle.import_frames.specs.Heard.{next_of, is_repeat, delivered_step, heard_by, heard_step}
use Rattle.import_frames.specs.Sent.{local_by, sent_by, sent_step}
use Rattle.import_frames.specs.declared.Asked.{Asked}
use Rattle.import_frames.specs.declared.Asked.TheVariants as Q
use Rattle.log_lines.specs.Lines.{is_frame, is_marked_sent, is_sent, begins_opening, is_opening, is_passed, socket_in, id_in}
use Rattle.import_lines.specs.Lines.{wrong_line, opened_step, plain_step, other_step, sent_line, unheard_step, line_step}
use Rattle.import_log.specs.Logs.{Import, report_in, step_of, number_in}
use Rattle.import_log.specs.Refusals.{links_in, heard_in, frame_heard, frame_sent, origin_in, TellsRefusal, IsRepeat, acknowledgement, close, StartSent, EveryRefusal, NoRefusal, NoDelivery, asked_by, SentQuiet, asks_nothing, sends, closes, IsQuiet, passed, opens, heard, repeats, sent, QuietLines}
use Rattle.import_log.proofs.Operations.{opening-no-frame, opening-unmarked, frame-unmarked, opening-socket}
use Rattle.import_log.proofs.Rows.{heard-line, opened, Becomes, records, compares, shows, refuses, becomes}

-- ---- the two repeats

module _ (ls : List Link) where
  repeat-is : (p : Result Frame FrameRefusal) (r : Refusal) → is_repeat (next_of ls (addressed provisioner ls p)) p r ≡ true → IsRepeat ls p (refusal_number r)
  repeat-is (Ok (P.Segment s)) r e = absurd (false≢true e)
  repeat-is (Ok (P.Acknowledgement id t)) r e = of (addressed provisioner ls (Ok (P.Acknowledgement id t))) refl
    where
      of : (found : Option ℕ) → addressed provisioner ls (Ok (P.Acknowledgement id t)) ≡ found → IsRepeat ls (Ok (P.Acknowledgement id t)) (refusal_number r)
      of (Some s) q =
          let w = both_hold {a = eqb (refusal_number r) 12} (rw q at e) in
          acknowledgement id t s refl q (eqb-true _ _ w.1) (eqb-true (refusal_number r) 12 w.0)
      of None q =
          let w = both_hold {a = eqb (refusal_number r) 12} (rw q at e) in
          let z : t.0 + 1 ≡ 0 = eqb-true (t.0 + 1) 0 w.1 in
          absurd (omega arith)
  repeat-is (Ok (P.Open id uuid)) r e = absurd (false≢true e)
  repeat-is (Ok (P.Ack id)) r e = absurd (false≢true e)
  repeat-is (Ok (P.Close id reason)) r e = close id reason refl (eqb-true (refusal_number r) 3 e)
  repeat-is (Err f) r e = absurd (false≢true e)

  is-repeat : (p : Result Frame FrameRefusal) (r : Refusal) → IsRepeat ls p (refusal_number r) → is_repeat (next_of ls (addressed provisioner ls p)) p r ≡ true
  is-repeat p r (acknowledgement id t s e q u k) = rw (q, e, k) (eq-eqb (t.0 + 1) _ u)
  is-repeat p r (close id reason e k) = rw (e, k) refl

-- ---- the kinds of lines

module _ (m : Import) (line : List ℕ) where
  abbrev tray : Tray
  tray = m.log.tray

  sent-step : is_sent line ≡ true → step_of m.log m.area line ≡ sent_step tray (number_in m) (octets_of (drop 1 line))
  unfolding line_step unheard_step sent_line
  sent-step e =
      let w = both_hold {a = is_marked_sent line} {b = is_frame (drop 1 line)} e in
      let f : is_frame line ≡ false = cases (is_frame line) (λ g. absurd (false≢true (sym (frame-unmarked line g) ∙ w.0))) (λ g. g) in
      rw (f, w.0, w.1)

  opening-step : is_opening line ≡ true → step_of m.log m.area line ≡ opened_step tray (number_in m) (socket_in line) (id_in line)
  unfolding line_step unheard_step other_step
  opening-step e = rw (opening-no-frame line e, opening-unmarked line e, e)

  report : {step other : Step} → step ≡ other → step.report ≡ other.report
  report e = ap (λ (x : Step). x.report) e

  wrong-step : is_frame line ≡ false → is_sent line ≡ false → is_opening line ≡ false → is_passed line ≡ false
      → step_of m.log m.area line ≡ wrong_line tray (number_in m)
  unfolding line_step unheard_step sent_line other_step plain_step
  wrong-step f g o p =
      cases (is_marked_sent line)
      (λ e. let d : is_frame (drop 1 line) ≡ false = rw e at g in rw f (rw e (rw d refl)))
      (λ e. rw (f, e, o, p))

  opening-told : is_opening line ≡ true → (r : Refusal) → (local_open Provisioner (links_in m) (socket_in line) (id_in line)).0 ≡ Err r
      → TellsRefusal m line (origin_of (F.Decimal (socket_in line).0) (F.Number (id_in line)) F.Empty) (refusal_number r)
  unfolding opened_step
  opening-told o r e = report (opening-step o) ∙ rw e

  heard-told : is_frame line ≡ true → (r : Refusal) → (heard_in m line).0 ≡ Err r → (IsRepeat (links_in m) (frame_heard line) (refusal_number r) → ⊥)
      → TellsRefusal m line (origin_in m (frame_heard line)) (refusal_number r)
  unfolding heard_step
  heard-told f r e h =
      let p = frame_heard line in
      cases (is_repeat (next_of (links_in m) (addressed provisioner (links_in m) p)) p r)
      (λ k. absurd (h (repeat-is (links_in m) p r k)))
      (λ k. report (heard-line m line f) ∙ rw (e, k))

  repeat-quiet : is_frame line ≡ true → (r : Refusal) → (heard_in m line).0 ≡ Err r → IsRepeat (links_in m) (frame_heard line) (refusal_number r)
      → report_in m line ≡ None
  unfolding heard_step
  repeat-quiet f r e h = report (heard-line m line f) ∙ rw (e, is-repeat (links_in m) (frame_heard line) r h)

  message-told : is_frame line ≡ true → (n : ℕ) (t : TransactionNumber) → (heard_in m line).0 ≡ Ok (A.Delivered n t)
      → (s : ℕ) → addressed provisioner (links_in m) (frame_heard line) ≡ Some s
      → (r : MessageRefusal) → message_read (part (heard_in m line).1.area (1469 * s) n) ≡ Err r
      → TellsRefusal m line (origin_in m (frame_heard line)) (message_number r)
  unfolding heard_step
  message-told f n t e s q r u = report (heard-line m line f) ∙ rw (e, q, u)

  broken-told : is_sent line ≡ true → (r : FrameRefusal) → frame_sent line ≡ Err r → TellsRefusal m line unknown (frame_number r)
  unfolding sent_step
  broken-told k Malformed e = report (sent-step k) ∙ rw e
  broken-told k UnknownOpcode e = report (sent-step k) ∙ rw e

  unknown-told : (g : Segment) (n : ℕ) → StartSent line g n → addressed provisioner (links_in m) (frame_sent line) ≡ None
      → TellsRefusal m line (origin_in m (frame_sent line)) 3
  unfolding sent_step
  unknown-told g n k q =
      let w : find (links_in m) g.id ≡ None = ap (addressed provisioner (links_in m)) (sym k.frame) ∙ q in
      report (sent-step k.marked) ∙ rw (k.frame, k.header, w)

  start-told : (g : Segment) (n : ℕ) → StartSent line g n → (s : ℕ) → addressed provisioner (links_in m) (frame_sent line) ≡ Some s
      → (get_or (links_in m) s no_link).outstanding ≡ false → (get_or (links_in m) s no_link).next ≡ g.number
      → (r : Refusal) → (local_send Provisioner (links_in m) (socket_at s) n).0 ≡ Err r
      → TellsRefusal m line (origin_in m (frame_sent line)) (refusal_number r)
  unfolding sent_step
  start-told g n k s q u v r e =
      let w : find (links_in m) g.id ≡ Some s = ap (addressed provisioner (links_in m)) (sym k.frame) ∙ q in
      let x : eqb (get_or (links_in m) s no_link).next.0 g.number.0 ≡ true = eq-eqb _ _ (ap (λ (y : TransactionNumber). y.0) v) in
      report (sent-step k.marked) ∙ rw (k.frame, k.header, w, u, x, e)

  close-told : is_sent line ≡ true → (id reason : ℕ) → frame_sent line ≡ Ok (P.Close id reason) → (s : ℕ) → addressed provisioner (links_in m) (frame_sent line) ≡ Some s
      → (r : Refusal) → (local_close Provisioner (links_in m) (socket_at s)).0 ≡ Err r
      → TellsRefusal m line (origin_in m (frame_sent line)) (refusal_number r)
  unfolding sent_step
  close-told k id reason p s q r e =
      let w : find (links_in m) id ≡ Some s = ap (addressed provisioner (links_in m)) (sym p) ∙ q in
      report (sent-step k) ∙ rw (p, w, e)

-- EVERY REFUSAL IS TOLD
pub every-refusal : EveryRefusal
every-refusal m line = record {
  wrong = λ f g o p. ap (λ (x : Step). x.report) (wrong-step m line f g o p);
  opening = opening-told m line;
  heard = heard-told m line;
  repeat = repeat-quiet m line;
  message = message-told m line;
  sent_broken = broken-told m line;
  sent_unknown = unknown-told m line;
  sent_start = start-told m line;
  sent_close = close-told m line;
}

-- ---- the lines that write nothing

no_row : {row : Row} → Some row ≡ None → ⊥
no_row e = let z : ◌≡◌ {A = ℕ} 0 1 = cc in omega arith

-- a frame that no record in use has the Link ID of is refused
unknown-refused : (σ : Station) (f : List ℕ) → addressed provisioner σ.links (parsed f) ≡ None → (r : Refusal) × ((received provisioner σ f).0 ≡ Err r)
unfolding received
unknown-refused σ f q =
    cases (eqb (length σ.area) (1469 * length σ.links))
    (λ a. rw a (cases (good Provisioner σ.links) (λ g. rw g (of (parsed f) q)) (λ g. rw g (_, refl))))
    (λ a. rw a (_, refl))
  where
    of : (p : Result Frame FrameRefusal) → addressed provisioner σ.links p ≡ None → (r : Refusal) × ((on_frame provisioner σ f p).0 ≡ Err r)
    of (Ok (P.Segment s)) q = rw q (_, refl)
    of (Ok (P.Acknowledgement id t)) q = rw q (_, refl)
    of (Ok (P.Open id uuid)) q = rw q (_, refl)
    of (Ok (P.Ack id)) q = rw q (_, refl)
    of (Ok (P.Close id reason)) q = rw q (_, refl)
    of (Err r) q = (_, refl)

-- a message that is delivered writes a row
message-row : (tray : Tray) (s number : ℕ) (origin : Origin) (message : Result Message MessageRefusal) → (message_step tray s number origin message).report ≡ None → ⊥
message-row tray s number origin message q = of (becomes tray s number origin message)
  where
    row : {t : Tray} {r : Row} → message_step tray s number origin message ≡ row_after t r → ⊥
    row e = no_row (sym (ap (λ (x : Step). x.report) e) ∙ q)

    of : Becomes tray s number origin message (message_step tray s number origin message) → ⊥
    of (records c u g e) = row e
    of (compares c first u g e) = row e
    of (shows u e) = row e
    of (refuses n e) = row e

-- an answer that comes to nothing
no-refusal : {a : Result Answer Refusal} → outcome_of a ≡ Ok None → NoRefusal a
no-refusal e r x = let q : ◌≡◌ {A = Result (Option Delivery) Refusal} (Ok None) (Err r) = sym e ∙ ap outcome_of x in let z : ◌≡◌ {A = ℕ} 0 1 = cc in omega arith

no-delivery : {a : Result Answer Refusal} → outcome_of a ≡ Ok None → NoDelivery a
no-delivery e n t x = let q : ◌≡◌ {A = Result (Option Delivery) Refusal} (Ok None) (Ok (Some (delivery n t))) = sym e ∙ ap outcome_of x in let z : ◌≡◌ {A = ℕ} 0 1 = cc in omega arith

-- a call that is not refused
local-quiet : (a : Result Answer Refusal) → NoRefusal a → (tray : Tray) (number : ℕ) (origin : Origin) → (local_by (outcome_of a) tray number origin).report ≡ None
local-quiet (Err r) h tray number origin = absurd (h r refl)
local-quiet (Ok A.AcknowledgeAgain) h tray number origin = refl
local-quiet (Ok A.Kept) h tray number origin = refl
local-quiet (Ok A.Repeat) h tray number origin = refl
local-quiet (Ok (A.Delivered n t)) h tray number origin = refl
local-quiet (Ok A.Opened) h tray number origin = refl
local-quiet (Ok A.Already) h tray number origin = refl
local-quiet (Ok (A.Closed reason)) h tray number origin = refl
local-quiet (Ok A.Acknowledged) h tray number origin = refl
local-quiet (Ok (A.Sending t n)) h tray number origin = refl
local-quiet (Ok A.Done) h tray number origin = refl

-- a line that is passed over is of no other kind
passed-kinds : (line : List ℕ) → is_passed line ≡ true → (is_frame line ≡ false) × (is_marked_sent line ≡ false) × (is_opening line ≡ false)
unfolding begins_opening value_of
passed-kinds [] p = (refl, refl, refl)
passed-kinds (x ∷ l) p =
    let mark : x ≡ 35 = eqb-true x 35 (rw (ne_eqb (suc (length l)) 0 (omega arith)) at p) in (
      cases (is_frame (x ∷ l))
          (λ f. let w = (both_hold {a = is_hexadecimal (x ∷ l)} {b = leb 2 (length (x ∷ l))} f).0 in
          let d = digit_at (x ∷ l) 0 (both_hold {a = eqb (length (x ∷ l) % 2) 0} {b = all_digits (x ∷ l)} w).1 (omega arith) in
          let v : value_of x ≡ 16 = rw mark in
          absurd (omega arith))
          (λ f. f),
      ne_eqb x 62 (omega arith),
      cases (is_opening (x ∷ l))
          (λ o. let s = leb-true 1 (x - 48) (both_hold {a = leb 1 (x - 48)} (opening-socket (x ∷ l) o)).0 in absurd (omega arith))
          (λ o. o),
    )

module _ (m : Import) (line : List ℕ) where
  abbrev here : Tray
  here = m.log.tray

  abbrev behind : Tray
  behind = with_links here (heard_in m line).1.links

  -- ---- a frame heard

  abbrev heard_as : Result Answer Refusal → Step
  heard_as a = heard_by (outcome_of a) (links_in m) (frame_heard line) behind (heard_in m line).1.area (number_in m)

  heard-is : is_frame line ≡ true → report_in m line ≡ (heard_as (heard_in m line).0).report
  unfolding heard_step
  heard-is f = ap (λ (x : Step). x.report) (heard-line m line f)

  heard-quiet : is_frame line ≡ true → (a : Result Answer Refusal) → (heard_in m line).0 ≡ a → (heard_as a).report ≡ None → IsQuiet m line
  heard-quiet f (Err r) e q =
      let p = frame_heard line in
      cases (is_repeat (next_of (links_in m) (addressed provisioner (links_in m) p)) p r)
      (λ k. repeats f r e (repeat-is (links_in m) p r k))
      (λ k. absurd (no_row (rw k at q)))
  heard-quiet f (Ok (A.Delivered n t)) e q = of (addressed provisioner (links_in m) (frame_heard line)) refl q
    where
      of : (found : Option ℕ) → addressed provisioner (links_in m) (frame_heard line) ≡ found
          → (delivered_step found (frame_heard line) behind (heard_in m line).1.area (number_in m) n).report ≡ None → IsQuiet m line
      of (Some s) u w =
          let message = message_read (part (heard_in m line).1.area (1469 * s) n) in
          absurd (message-row behind s (number_in m) (frame_origin (Some s) (frame_heard line)) message w)
      of None u w =
          let x = unknown-refused (station_of here m.area) (octets_of line) u in
          let y : Err x.0 ≡ Ok (A.Delivered n t) = sym x.1 ∙ e in
          let z : ◌≡◌ {A = ℕ} 0 1 = cc in absurd (omega arith)
  heard-quiet f (Ok A.AcknowledgeAgain) e q = heard f (no-refusal (ap outcome_of e)) (no-delivery (ap outcome_of e))
  heard-quiet f (Ok A.Kept) e q = heard f (no-refusal (ap outcome_of e)) (no-delivery (ap outcome_of e))
  heard-quiet f (Ok A.Repeat) e q = heard f (no-refusal (ap outcome_of e)) (no-delivery (ap outcome_of e))
  heard-quiet f (Ok A.Opened) e q = heard f (no-refusal (ap outcome_of e)) (no-delivery (ap outcome_of e))
  heard-quiet f (Ok A.Already) e q = heard f (no-refusal (ap outcome_of e)) (no-delivery (ap outcome_of e))
  heard-quiet f (Ok (A.Closed reason)) e q = heard f (no-refusal (ap outcome_of e)) (no-delivery (ap outcome_of e))
  heard-quiet f (Ok A.Acknowledged) e q = heard f (no-refusal (ap outcome_of e)) (no-delivery (ap outcome_of e))
  heard-quiet f (Ok (A.Sending t n)) e q = heard f (no-refusal (ap outcome_of e)) (no-delivery (ap outcome_of e))
  heard-quiet f (Ok A.Done) e q = heard f (no-refusal (ap outcome_of e)) (no-delivery (ap outcome_of e))

  quiet-heard : (a : Result Answer Refusal) → NoRefusal a → NoDelivery a → (heard_as a).report ≡ None
  quiet-heard (Err r) h g = absurd (h r refl)
  quiet-heard (Ok A.AcknowledgeAgain) h g = refl
  quiet-heard (Ok A.Kept) h g = refl
  quiet-heard (Ok A.Repeat) h g = refl
  quiet-heard (Ok (A.Delivered n t)) h g = absurd (g n t refl)
  quiet-heard (Ok A.Opened) h g = refl
  quiet-heard (Ok A.Already) h g = refl
  quiet-heard (Ok (A.Closed reason)) h g = refl
  quiet-heard (Ok A.Acknowledged) h g = refl
  quiet-heard (Ok (A.Sending t n)) h g = refl
  quiet-heard (Ok A.Done) h g = refl

  -- ---- a frame sent

  abbrev sent_as : Result (Option Asked) Refusal → Step
  sent_as a = sent_by a here (number_in m) (origin_in m (frame_sent line))

  sent_is : is_sent line ≡ true → report_in m line ≡ (sent_as (asked_by m (frame_sent line))).report
  unfolding sent_step
  sent_is k = ap (λ (x : Step). x.report) (sent-step m line k)

  sent-quiet : (a : Result (Option Asked) Refusal) → asked_by m (frame_sent line) ≡ a → (sent_as a).report ≡ None → SentQuiet m (frame_sent line)
  sent-quiet (Ok None) e q = asks_nothing e
  sent-quiet (Err r) e q = absurd (no_row q)
  sent-quiet (Ok (Some (Q.Send s n))) e q = sends s n e (λ r x. no_row (rw x at q))
  sent-quiet (Ok (Some (Q.Close s))) e q = closes s e (λ r x. no_row (rw x at q))

  quiet-sent : SentQuiet m (frame_sent line) → (sent_as (asked_by m (frame_sent line))).report ≡ None
  quiet-sent (asks_nothing e) = ap (λ (a : Result (Option Asked) Refusal). (sent_as a).report) e
  quiet-sent (sends s n e h) = ap (λ (a : Result (Option Asked) Refusal). (sent_as a).report) e ∙ local-quiet (local_send Provisioner (links_in m) s n).0 h _ _ _
  quiet-sent (closes s e h) = ap (λ (a : Result (Option Asked) Refusal). (sent_as a).report) e ∙ local-quiet (local_close Provisioner (links_in m) s).0 h _ _ _

  -- ---- an opening

  opening-quiet : is_opening line ≡ true → report_in m line ≡ None → IsQuiet m line
  opening-quiet o q = of (open-calls Provisioner (links_in m) s id)
    where
      s : Socket
      s = socket_in line

      id : ℕ
      id = id_in line

      of : Calls Provisioner (links_in m) s (is_found (find (links_in m) id) ≡ false) (Ok A.Done) (blank_with Provisioner L.Opening id)
          (local_open Provisioner (links_in m) s id) → IsQuiet m line
      of (refusal r e) = absurd (no_row (sym (opening-told m line o r (ap (λ (x : Result Answer Refusal × List Link). x.0) e)) ∙ q))
      of (written r g u e) = opens s id (record { form = o; socket = refl; link_id = refl; done = ap (λ (x : Result Answer Refusal × List Link). told x.0) e })

  -- ---- any line

  passed-quiet : is_passed line ≡ true → report_in m line ≡ None
  unfolding line_step unheard_step other_step plain_step
  passed-quiet p = let k = passed-kinds line p in ap (λ (x : Step). x.report) (step k.0 k.1 k.2)
    where
      step : is_frame line ≡ false → is_marked_sent line ≡ false → is_opening line ≡ false → step_of m.log m.area line ≡ nothing_after here
      step f k o = rw (f, k, o, p)

  is-quiet : report_in m line ≡ None → IsQuiet m line
  is-quiet q =
      cases (is_frame line) (λ f. heard-quiet f (heard_in m line).0 refl (sym (heard-is f) ∙ q))
      (λ f. cases (is_sent line) (λ k. sent k (sent-quiet (asked_by m (frame_sent line)) refl (sym (sent_is k) ∙ q)))
      (λ k. cases (is_opening line) (λ o. opening-quiet o q)
      (λ o. cases (is_passed line) passed
      (λ p. absurd (no_row (sym (ap (λ (x : Step). x.report) (wrong-step m line f k o p)) ∙ q))))))

  quiet_is : IsQuiet m line → report_in m line ≡ None
  quiet_is (passed p) = passed-quiet p
  quiet_is (opens s id o) = ap (λ (x : Step). x.report) (opened m line s id o).1
  quiet_is (heard f h g) = heard-is f ∙ quiet-heard (heard_in m line).0 h g
  quiet_is (repeats f r e h) = repeat-quiet m line f r e h
  quiet_is (sent k h) = sent_is k ∙ quiet-sent h

-- THE LINES THAT WRITE NOTHING
pub quiet-lines : QuietLines
quiet-lines m line = (is-quiet m line, quiet_is m line)
