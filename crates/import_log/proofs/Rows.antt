-- What a line writes: nothing, a refusal, or what becomes of a message that its frame delivers; and what it does to the stock.
use Rattle.std.specs.Prelude.{None, Option, Some, Result, Ok, Err}
use Rattle.links.specs.declared.Answer.{Answer}
use Prim.Native.Nat.{ℕ, ◌*◌}
use native.Mathlib.Omega.{arith}
use mathlib.Core.Bool.{Bool, true, false}
use mathlib.Core.List.{List, [], ◌∷◌}
use mathlib.Core.Path.{◌≡◌, refl, sym, ap, ◌∙◌}
use lib.ListN.{length, drop, set, length-set}
use Rattle.octets.specs.Parts.{part}
use Rattle.octets.proofs.Tables.{other-told}
use Rattle.octets.proofs.Tests.{cases}
use Rattle.hexadecimal.specs.Hex.{octets_of}
use Rattle.transactions.specs.Numbers.{is_socket, socket_place}
use Rattle.transactions.specs.declared.Socket.{Socket}
use Rattle.transactions.specs.declared.TransactionNumber.{TransactionNumber}
use Rattle.pb_adv.specs.Frame.{parsed}
use Rattle.links.specs.Links.{provisioner, blank_with, find, told}
use Rattle.links.specs.Station.{Station, is_found, with_link, received, local_open, local_send, local_close}
use Rattle.links.specs.Promises.{addressed}
use Rattle.links.specs.declared.Side.TheVariants.{Provisioner}
use Rattle.links.specs.declared.LinkState.TheVariants as L
use Rattle.links.specs.declared.Link.{Link}
use Rattle.links.specs.declared.Answer.TheVariants as A
use Rattle.links.proofs.Local.{Calls, refusal, written, open-calls}
use Rattle.provisioning.specs.Message.{message_read}
use Rattle.provisioning.specs.declared.Capabilities.{Capabilities}
use Rattle.provisioning.specs.declared.Message.{Message}
use Rattle.provisioning.specs.declared.MessageRefusal.{MessageRefusal}
use Rattle.links.specs.declared.Refusal.{Refusal}
use Rattle.provisioning.specs.declared.Message.TheVariants as M
use Rattle.line_fields.specs.declared.Word.TheVariants as W
use Rattle.stock_table.specs.Rows.{record_row, message_row, refused_row}
use Rattle.stock_table.specs.declared.Origin.{Origin}
use Rattle.stock_table.specs.declared.Row.{Row}
use Rattle.import_tray.specs.Trays.{with_links, stock_at, with_stock, row_after, nothing_after}
use Rattle.import_tray.specs.declared.Stock.{Stock}
use Rattle.import_tray.specs.declared.Stock.TheVariants as K
use Rattle.import_tray.specs.declared.Tray.{Tray}
use Rattle.import_tray.specs.declared.Step.{Step}
use Rattle.import_messages.specs.Messages.{reading_of, further_word, capabilities_by, message_step}
use Rattle.import_frames.specs.Origins.{outcome_of, frame_origin}
use Rattle.import_frames.specs.Heard.{next_of, is_repeat, refused_report, delivered_step, heard_by, heard_step}
use Rattle.import_frames.specs.Sent.{sent_of, local_by, sent_by, sent_step}
use Rattle.import_frames.specs.declared.Delivery.{Delivery}
use Rattle.import_frames.specs.declared.Asked.{Asked}
use Rattle.import_frames.specs.declared.Asked.TheVariants as Q
use Rattle.log_lines.specs.Lines.{is_frame, is_marked_sent, is_opening, is_passed, socket_in, id_in}
use Rattle.import_lines.specs.Lines.{opened_by, opened_step, plain_step, other_step, sent_line, unheard_step, line_step}
use Rattle.import_log.specs.Logs.{Import, report_in, step_of, after, after_all, number_in}
use Rattle.import_log.specs.Records.{Opens}
use Rattle.import_log.proofs.Operations.{station_in, opening-no-frame, opening-unmarked}

-- ---- reports

-- nothing, or a refusal
abbrev pub Refuses : Option Row → Type 0
Refuses None = Unit {0}
Refuses (Some row) = row.what ≡ W.Refused

-- no more than that, and the stock stays
pub record Quiet (stock : List Stock) (step : Step) : Type 0 where
  pub refuses : Refuses step.report
  pub same : step.tray.stock ≡ stock

-- a line whose frame delivers a message of so many octets under a number
pub record Delivered (m : Import) (line : List ℕ) : Type 0 where
  pub is_hexadecimal : is_frame line ≡ true
  pub long : ℕ
  pub number : TransactionNumber
  pub place : ℕ
  pub answer : (received provisioner (station_in m) (octets_of line)).0 ≡ Ok (A.Delivered long number)
  pub is_for : addressed provisioner m.log.tray.links (parsed (octets_of line)) ≡ Some place

-- the message as it is read, its origin, and what becomes of it
abbrev pub read_from : (m : Import) (line : List ℕ) → Delivered m line → Result Message MessageRefusal
read_from m line d = message_read (part (received provisioner (station_in m) (octets_of line)).1.area (1469 * d.place) d.long)

abbrev pub origin_from : (m : Import) (line : List ℕ) → Delivered m line → Origin
origin_from m line d = frame_origin (Some d.place) (parsed (octets_of line))

abbrev pub step_from : (m : Import) (line : List ℕ) → Delivered m line → Step
step_from m line d =
    message_step (with_links m.log.tray (received provisioner (station_in m) (octets_of line)).1.links) d.place (number_in m)
    (origin_from m line d) (read_from m line d)

-- the tray behind an opening
abbrev pub opened_tray : Import → Socket → ℕ → Tray
opened_tray m s id =
    with_stock (with_links m.log.tray (with_link m.log.tray.links s (blank_with Provisioner L.Opening id))) (socket_place s) K.Missing

-- a line is quiet, opens a socket, or delivers a message
pub data Says (m : Import) (line : List ℕ) (step : Step) : Type 0 where
  quiet : Quiet m.log.tray.stock step → Says m line step
  opens : (s : Socket) (id : ℕ) → Opens m line s id → step ≡ nothing_after (opened_tray m s id) → Says m line step
  tells : (d : Delivered m line) → step ≡ step_from m line d → Says m line step

module _ (m : Import) (line : List ℕ) where
  abbrev tray : Tray
  tray = m.log.tray

  abbrev number : ℕ
  number = number_in m

  -- ---- a frame heard

  module _ (is_one : is_frame line ≡ true) where
    abbrev f : List ℕ
    f = octets_of line

    abbrev done : Result Answer Refusal × Station
    done = received provisioner (station_in m) f

    abbrev behind : Tray
    behind = with_links tray done.1.links

    -- an answer that writes nothing
    silent : Says m line (nothing_after behind)
    silent = quiet (record { refuses = tt; same = refl })

    refused_says : (r : Refusal) → Refuses (refused_report tray.links (parsed f) number r)
    refused_says r = cases (is_repeat (next_of tray.links (addressed provisioner tray.links (parsed f))) (parsed f) r) (λ e. rw e tt) (λ e. rw e refl)

    at : (n : ℕ) (t : TransactionNumber) → done.0 ≡ Ok (A.Delivered n t) → (found : Option ℕ) → addressed provisioner tray.links (parsed f) ≡ found
        → Says m line (delivered_step found (parsed f) behind done.1.area number n)
    at n t e (Some s) q = tells (record { is_hexadecimal = is_one; long = n; number = t; place = s; answer = e; is_for = q }) refl
    at n t e None q = silent

    by_answer : (a : Result Answer Refusal) → done.0 ≡ a → Says m line (heard_by (outcome_of a) tray.links (parsed f) behind done.1.area number)
    by_answer (Err r) e = quiet (record { refuses = refused_says r; same = refl })
    by_answer (Ok A.AcknowledgeAgain) e = silent
    by_answer (Ok A.Kept) e = silent
    by_answer (Ok A.Repeat) e = silent
    by_answer (Ok (A.Delivered n t)) e = at n t e (addressed provisioner tray.links (parsed f)) refl
    by_answer (Ok A.Opened) e = silent
    by_answer (Ok A.Already) e = silent
    by_answer (Ok (A.Closed reason)) e = silent
    by_answer (Ok A.Acknowledged) e = silent
    by_answer (Ok (A.Sending t n)) e = silent
    by_answer (Ok A.Done) e = silent

    heard-says : Says m line (heard_step tray m.area number f)
    unfolding heard_step
    heard-says = by_answer done.0 refl

  -- ---- a frame sent

  local-quiet : (o : Result (Option Delivery) Refusal) (t : Tray) (origin : Origin) → t.stock ≡ tray.stock → Quiet tray.stock (local_by o t number origin)
  local-quiet (Err r) t origin e = record { refuses = refl; same = e }
  local-quiet (Ok d) t origin e = record { refuses = tt; same = e }

  sent-quiet : (f : List ℕ) → Quiet tray.stock (sent_step tray number f)
  unfolding sent_step
  sent-quiet f = by (sent_of tray.links (addressed provisioner tray.links (parsed f)) (parsed f)) (frame_origin (addressed provisioner tray.links (parsed f)) (parsed f))
    where
      by : (a : Result (Option Asked) Refusal) (origin : Origin) → Quiet tray.stock (sent_by a tray number origin)
      by (Ok None) origin = record { refuses = tt; same = refl }
      by (Err r) origin = record { refuses = refl; same = refl }
      by (Ok (Some (Q.Send s n))) origin =
          let r = local_send Provisioner tray.links s n in
          local-quiet (outcome_of r.0) (with_links tray r.1) origin refl
      by (Ok (Some (Q.Close s))) origin =
          let r = local_close Provisioner tray.links s in
          local-quiet (outcome_of r.0) (with_links tray r.1) origin refl

  -- ---- an opening

  abbrev OpenCalls : Socket → ℕ → Result Answer Refusal × List Link → Type 0
  OpenCalls s id r = Calls Provisioner tray.links s (is_found (find tray.links id) ≡ false) (Ok A.Done) (blank_with Provisioner L.Opening id) r

  open-says : is_opening line ≡ true → Says m line (opened_step tray number (socket_in line) (id_in line))
  unfolding opened_step
  open-says form = of (open-calls Provisioner tray.links (socket_in line) (id_in line))
    where
      s : Socket
      s = socket_in line

      id : ℕ
      id = id_in line

      r : Result Answer Refusal × List Link
      r = local_open Provisioner tray.links s id

      of : OpenCalls s id r
          → Says m line (opened_by (outcome_of r.0) (with_links tray r.1) number s id)
      of (refusal q e) = rw e (quiet (record { refuses = refl; same = refl }))
      of (written r g u e) =
          let w : Opens m line s id = record { form = form; socket = refl; link_id = refl; done = ap (λ (x : Result Answer Refusal × List Link). told x.0) e } in
          rw e (opens s id w refl)

  -- ---- any line

  unheard-says : Says m line (unheard_step tray number line)
  unfolding unheard_step sent_line other_step plain_step
  unheard-says =
      cases (is_marked_sent line)
      (λ e. rw e (cases (is_frame (drop 1 line)) (λ g. rw g (quiet (sent-quiet (octets_of (drop 1 line)))))
      (λ g. rw g (quiet (record { refuses = refl; same = refl })))))
      (λ e. rw e (cases (is_opening line) (λ g. rw g (open-says g))
      (λ g. rw g (cases (is_passed line) (λ p. rw p (quiet (record { refuses = tt; same = refl })))
      (λ p. rw p (quiet (record { refuses = refl; same = refl })))))))

  pub says : Says m line (step_of m.log m.area line)
  unfolding line_step
  says = cases (is_frame line) (λ e. rw e (heard-says e)) (λ e. rw e unheard-says)

  pub heard-line : is_frame line ≡ true → step_of m.log m.area line ≡ heard_step tray m.area number (octets_of line)
  unfolding line_step
  heard-line e = rw e

  -- where it opens a socket
  pub opened : (s : Socket) (id : ℕ) → Opens m line s id
      → (is_socket s (length tray.links) ≡ true) × (step_of m.log m.area line ≡ nothing_after (opened_tray m s id))
  unfolding line_step unheard_step other_step opened_step
  opened s id o = of (open-calls Provisioner tray.links s id)
    where
      step : step_of m.log m.area line ≡ opened_step tray number s id
      step = rw (opening-no-frame line o.form, opening-unmarked line o.form, o.form) (rw (o.socket, o.link_id))

      of : OpenCalls s id (local_open Provisioner tray.links s id)
          → (is_socket s (length tray.links) ≡ true) × (step_of m.log m.area line ≡ nothing_after (opened_tray m s id))
      of (refusal q e) = other-told _ _ refl (sym (ap (λ (x : Result Answer Refusal × List Link). told x.0) e) ∙ o.done)
      of (written r g u e) = (r, step ∙ rw e)

-- ---- a message that was delivered

abbrev pub is_recorded : Stock → Bool
is_recorded K.Unopened = false
is_recorded K.Missing = false
is_recorded (K.Recorded c) = true

module _ (tray : Tray) (s number : ℕ) (origin : Origin) where
  -- it is recorded, compared with the record, shown or refused
  pub data Becomes (message : Result Message MessageRefusal) (step : Step) : Type 0 where
    records : (c : Capabilities) → message ≡ Ok (M.Capabilities c) → is_recorded (stock_at tray s) ≡ false
        → step ≡ row_after (with_stock tray s (K.Recorded c)) (record_row W.Record number origin c) → Becomes message step
    compares : (c first : Capabilities) → message ≡ Ok (M.Capabilities c) → stock_at tray s ≡ K.Recorded first
        → step ≡ row_after tray (record_row (further_word first c) number origin c) → Becomes message step
    shows : reading_of message ≡ Ok None → step ≡ row_after tray (message_row number origin message) → Becomes message step
    refuses : (n : ℕ) → step ≡ row_after tray (refused_row number origin n) → Becomes message step

  pub becomes : (message : Result Message MessageRefusal) → Becomes message (message_step tray s number origin message)
  becomes (Ok (M.Invite attention)) = shows refl refl
  becomes (Ok (M.Capabilities c)) = by (stock_at tray s) refl
    where
      by : (k : Stock) → stock_at tray s ≡ k → Becomes (Ok (M.Capabilities c)) (capabilities_by k tray s number origin c)
      by K.Unopened e = records c refl (rw e) refl
      by K.Missing e = records c refl (rw e) refl
      by (K.Recorded first) e = compares c first refl e refl
  becomes (Ok (M.Start c)) = shows refl refl
  becomes (Ok (M.PublicKey x y)) = shows refl refl
  becomes (Ok M.InputComplete) = shows refl refl
  becomes (Ok (M.Confirmation c)) = shows refl refl
  becomes (Ok (M.Random r)) = shows refl refl
  becomes (Ok (M.Data d mic)) = shows refl refl
  becomes (Ok M.Complete) = shows refl refl
  becomes (Ok (M.Failed code)) = shows refl refl
  becomes (Err r) = refuses _ refl

-- and that of a line
abbrev pub BecomesOf : (m : Import) (line : List ℕ) → Delivered m line → Step → Type 0
BecomesOf m line d step =
    Becomes (with_links m.log.tray (received provisioner (station_in m) (octets_of line)).1.links) d.place (number_in m)
    (origin_from m line d) (read_from m line d) step

pub becomes-of : (m : Import) (line : List ℕ) (d : Delivered m line) {step : Step} → step ≡ step_from m line d → BecomesOf m line d step
becomes-of m line d e = rw e (becomes _ d.place _ _ (read_from m line d))

-- ---- the row that a line writes

-- of a message that it delivers, or a refusal
module _ (m : Import) (line : List ℕ) (row : Row) where
  pub data Written : Type 0 where
    is_record : (d : Delivered m line) (c : Capabilities) → read_from m line d ≡ Ok (M.Capabilities c) → is_recorded (stock_at m.log.tray d.place) ≡ false
        → (after m line).log.tray.stock ≡ set m.log.tray.stock d.place (K.Recorded c)
        → row ≡ record_row W.Record (number_in m) (origin_from m line d) c → Written
    is_further : (d : Delivered m line) (c first : Capabilities) → read_from m line d ≡ Ok (M.Capabilities c) → stock_at m.log.tray d.place ≡ K.Recorded first
        → row ≡ record_row (further_word first c) (number_in m) (origin_from m line d) c → Written
    is_message : (d : Delivered m line) → reading_of (read_from m line d) ≡ Ok None
        → row ≡ message_row (number_in m) (origin_from m line d) (read_from m line d) → Written
    is_refusal : row.what ≡ W.Refused → Written

  pub line_writes : report_in m line ≡ Some row → Written
  line_writes e = of (says m line)
    where
      is : {tray : Tray} {other : Row} → step_of m.log m.area line ≡ row_after tray other → row ≡ other
      is {tray} {other} q = let r : Some row ≡ Some other = sym e ∙ ap (λ (x : Step). x.report) q in cc

      of-message : (d : Delivered m line) → BecomesOf m line d (step_of m.log m.area line) → Written
      of-message d (records c u was q) = is_record d c u was (ap (λ (x : Step). x.tray.stock) q) (is q)
      of-message d (compares c first u g q) = is_further d c first u g (is q)
      of-message d (shows u q) = is_message d u (is q)
      of-message d (refuses n q) = is_refusal (ap (λ (x : Row). x.what) (is q))

      of : Says m line (step_of m.log m.area line) → Written
      of (quiet r) = is_refusal (rw e at r.refuses)
      of (opens s id w q) = let r = sym e ∙ ap (λ (x : Step). x.report) q in let z : ◌≡◌ {A = ℕ} 0 1 = cc in absurd (omega arith)
      of (tells d q) = of-message d (becomes-of m line d q)

-- ---- how many sockets the stock has

pub stock-count : (m : Import) (line : List ℕ) → length (after m line).log.tray.stock ≡ length m.log.tray.stock
stock-count m line = of (says m line)
  where
    of-message : {step : Step} (d : Delivered m line) → BecomesOf m line d step → length step.tray.stock ≡ length m.log.tray.stock
    of-message d (records c u g e) = ap (λ (x : Step). length x.tray.stock) e ∙ length-set m.log.tray.stock d.place _
    of-message d (compares c first u g e) = ap (λ (x : Step). length x.tray.stock) e
    of-message d (shows u e) = ap (λ (x : Step). length x.tray.stock) e
    of-message d (refuses n e) = ap (λ (x : Step). length x.tray.stock) e

    of : {step : Step} → Says m line step → length step.tray.stock ≡ length m.log.tray.stock
    of (quiet q) = ap length q.same
    of (opens s id w e) = ap (λ (x : Step). length x.tray.stock) e ∙ length-set m.log.tray.stock (socket_place s) _
    of (tells d q) = of-message d (becomes-of m line d q)

pub stock-counts : (m : Import) (lines : List (List ℕ)) → length (after_all m lines).log.tray.stock ≡ length m.log.tray.stock
stock-counts m [] = refl
stock-counts m (line ∷ lines) = stock-counts (after m line) lines ∙ stock-count m line
