-- The promises of `specs/Answers.antt`.
use Rattle.std.specs.Prelude.{Some, Ok, Option, Result}
use Rattle.links.specs.declared.Answer.{Answer}
use Rattle.links.specs.declared.Refusal.{Refusal}
use Prim.Native.Nat.{ℕ, ◌+◌, ◌*◌, ◌≤◌, ◌<◌}
use native.Mathlib.Omega.{arith}
use mathlib.Core.Bool.{true, false≢true}
use mathlib.Core.List.{List, [], ◌∷◌, ◌++◌}
use mathlib.Core.Logic.{◌≢◌}
use mathlib.Core.Path.{◌≡◌, refl, sym, ap, ◌∙◌}
use lib.ListN.{length, take, drop}
use lib.Seq.{take-take}
use Rattle.octets.specs.Parts.{part}
use Rattle.octets.proofs.Tests.{both_hold}
use Rattle.hexadecimal.specs.Hex.{octets_of}
use Rattle.transactions.specs.Numbers.{socket_place}
use Rattle.transactions.specs.Segments.{seg_n, segment}
use Rattle.transactions.specs.declared.Socket.{Socket}
use Rattle.transactions.specs.declared.TransactionNumber.{TransactionNumber}
use Rattle.pb_adv.specs.Frame.{parsed}
use Rattle.pb_adv.specs.declared.Frame.TheVariants as P
use Rattle.pb_adv_writing.specs.Writing.{header_of, segment_frame, SegmentAsked}
use Rattle.pb_adv_writing.proofs.Promises.{parsed-frame}
use Rattle.links.specs.Links.{provisioner, is_last, sends}
use Rattle.links.specs.Segments.{OneLink, segment_step}
use Rattle.links.specs.Station.{Station, get_link, received, link_at}
use Rattle.links.specs.Interleaving.{All}
use Rattle.links.specs.declared.Side.TheVariants.{Device}
use Rattle.links.specs.declared.LinkState.TheVariants as S
use Rattle.links.specs.declared.Answer.TheVariants as A
use Rattle.links.proofs.Lens.{sized-right, part-size}
use Rattle.links.proofs.Right.{OpenAt, found, goes, same}
use Rattle.links.proofs.Sockets.{place-below, socket-at}
use Rattle.provisioning.specs.Message.{message_read}
use Rattle.provisioning.specs.declared.Capabilities.{Capabilities}
use Rattle.provisioning.specs.declared.Message.TheVariants as M
use Rattle.line_fields.specs.declared.Word.TheVariants as W
use Rattle.stock_table.specs.Rows.{record_row}
use Rattle.stock_table.specs.declared.Origin.{Origin}
use Rattle.import_tray.specs.Trays.{stock_at}
use Rattle.import_tray.specs.declared.Stock.{Stock}
use Rattle.import_tray.specs.declared.Stock.TheVariants as K
use Rattle.import_tray.specs.declared.Tray.{Tray}
use Rattle.import_tray.specs.declared.Step.{Step}
use Rattle.import_messages.specs.Messages.{capabilities_by}
use Rattle.import_frames.specs.Heard.{heard_step}
use Rattle.log_lines.specs.Lines.{is_frame, is_marked_sent}
use Rattle.import_log.specs.Logs.{Import, after, after_all, at_first, number_in}
use Rattle.import_log.specs.Records.{Opens, message_origin}
use Rattle.import_log.specs.Answers.{Expects, Answering, Recorded, EveryAnswer, Leaves, FromTheStart}
use Rattle.import_log.proofs.Operations.{station_in, after-lines, frame-unmarked, Right, right}
use Rattle.import_log.proofs.Rows.{heard-line, is_recorded}
use Rattle.import_log.proofs.Records.{capabilities-read}
use Rattle.import_log.proofs.AtOnce.{at_once}
use Rattle.import_log.proofs.Waiting.{Waits, keeps-waiting}
use Rattle.import_log.proofs.Opening.{opening-waits, ack-line}

-- ---- the message

-- the first since its socket was opened
first-recorded : (stock : Stock) → ((c : Capabilities) → stock ≢ K.Recorded c) → (tray : Tray) (s line : ℕ) (origin : Origin) (c : Capabilities)
    → (capabilities_by stock tray s line origin c).report ≡ Some (record_row W.Record line origin c)
first-recorded K.Unopened h tray s line origin c = refl
first-recorded K.Missing h tray s line origin c = refl
first-recorded (K.Recorded first) h tray s line origin c = absurd (h first refl)

-- the start of a longer part
part-front : (l : List ℕ) (from few many : ℕ) → few ≤ many → part l from few ≡ take few (part l from many)
part-front l from few many h = sym (take-take few many (drop from l) h)

-- ---- the line

module _ (m : Import) (g : Right (station_in m)) (s : Socket) (id : ℕ) (t : TransactionNumber) (x : Expects m s id t) where
  abbrev tray : Tray
  tray = m.log.tray

  abbrev σ : Station
  σ = station_in m

  -- its place
  abbrev place : ℕ
  place = socket_place s

  below : place < 8
  below = place-below s 8 x.numbered

  opened : OpenAt provisioner σ place id
  unfolding get_link
  opened = record { right = sized-right σ g.sized; not_bad = g.is_good; below = rw g.count below; is_open = x.is_open; has_id = x.has_id }

  module _ (octets : List ℕ) (long : length octets ≡ 12) (f : List ℕ) (is : f ≡ segment_frame id t octets 0) where
    asked : SegmentAsked octets 0
    asked = record { some-octets = omega arith; few-octets = omega arith; index = omega arith }

    abbrev taken : OneLink
    taken = (segment_step (get_link place σ) t (header_of octets 0) (segment octets 0)).1

    at-link : ((segment_step (get_link place σ) t (header_of octets 0) (segment octets 0)).0 ≡ Ok (A.Delivered 12 t)) × (take 12 taken.part ≡ octets)
    unfolding get_link
    at-link =
        let one : seg_n (length octets) ≡ 0 = rw long in
        let room = part-size (length σ.links) σ refl g.sized place opened.below in
        rw (← long) (at_once octets t (get_link place σ) x.awaited x.not_half (omega arith) one (omega (arith, room)))

    answers : (received provisioner σ f).0 ≡ Ok (A.Delivered 12 t)
    answers = ap (λ (r : Result Answer Refusal × Station). r.0) (goes provisioner σ place id opened t octets 0 asked x.sent f is) ∙ at-link.0

    -- the message stands at the start of its part
    stands : part (received provisioner σ f).1.area (1469 * place) 12 ≡ octets
    unfolding get_link
    stands =
        part-front (received provisioner σ f).1.area (1469 * place) 12 1469 (omega arith)
        ∙ ap (λ (y : OneLink). take 12 y.part) (same provisioner σ place id opened t octets 0 asked x.sent f is) ∙ at-link.1

    writes : (number : ℕ) (c : Capabilities) → message_read octets ≡ Ok (M.Capabilities c)
        → (heard_step tray m.area number f).report ≡ Some (record_row W.Record number (message_origin s id t) c)
    unfolding heard_step
    writes number c e =
        let n = ap parsed is ∙ parsed-frame id t octets 0 asked in
        let q : place + 1 ≡ s.0 = ap (λ (z : Socket). z.0) (socket-at s 8 x.numbered) in
        rw (n, answers, found provisioner σ place id opened, stands, e, q)
        (first-recorded (stock_at tray place) x.no_record _ place number (message_origin s id t) c)

-- an answer that is awaited is recorded
pub answer-recorded : (m : Import) → Right (station_in m) → (s : Socket) (id : ℕ) (t : TransactionNumber) → Expects m s id t
    → (line octets : List ℕ) → Answering line id t octets → Recorded m line s id t octets
answer-recorded m g s id t x line octets a =
    let c = a.accepted.0 in
    let r = capabilities-read octets c a.accepted.1 in
    ap (λ (k : Step). k.report) (heard-line m line a.is_hexadecimal)
    ∙ writes m g s id t x octets r.0 (octets_of line) a.frame (number_in m) c a.accepted.1
    ∙ ap (λ (d : Capabilities). Some (record_row W.Record (number_in m) (message_origin s id t) d)) r.1

-- EVERY ANSWER IS RECORDED
pub every-answer : EveryAnswer
every-answer before s id t x line octets a = answer-recorded (after_all at_first before) (right before) s id t x line octets a

-- ---- from the log's start

-- an open link that waits expects any number of the device's
expects : (m : Import) (s : Socket) (id : ℕ) → Waits m s id → (link_at m.log.tray.links s).state ≡ S.Open → (t : TransactionNumber) → sends Device t ≡ true
    → Expects m s id t
expects m s id w opened t sent = record {
  numbered = w.numbered;
  is_open = opened;
  has_id = w.has_id;
  sent = sent;
  awaited = record { not_last = ap (λ (l : Option TransactionNumber). is_last l t) w.last };
  not_half = λ h e. let q = sym w.half ∙ e in let z : ◌≡◌ {A = ℕ} 0 1 = cc in absurd (omega arith);
  no_record = λ c e. false≢true (sym w.no_record ∙ ap is_recorded e);
}

-- the lines that open it, with the lines between them and since
module _ (before : List (List ℕ)) (opening : List ℕ) (s : Socket) (id : ℕ) (opens : Opens (after_all at_first before) opening s id)
    (between : List (List ℕ)) (leave : All (Leaves id) between) (ack : List ℕ) (is_hexadecimal : is_frame ack ≡ true) (is_ack : parsed (octets_of ack) ≡ Ok (P.Ack id))
    (since : List (List ℕ)) (leave_too : All (Leaves id) since) where
  -- after the opening, before the Ack and after it
  abbrev first : Import
  first = after (after_all at_first before) opening

  abbrev second : Import
  second = after_all first between

  abbrev third : Import
  third = after second ack

  at-end : after_all at_first (before ++ (opening ∷ (between ++ (ack ∷ since)))) ≡ after_all third since
  at-end = after-lines at_first before (opening ∷ (between ++ (ack ∷ since))) ∙ after-lines first between (ack ∷ since)

  good-second : Right (station_in second)
  good-second = rw (after-lines at_first before (opening ∷ between)) at (right (before ++ (opening ∷ between)))

  waits-second : Waits second s id
  waits-second = (keeps-waiting s id first (opening-waits (after_all at_first before) (right before) opening s id opens) between leave).waits

  ack-leaves : Leaves id ack
  ack-leaves = record {
    heard = λ e. rw is_ack;
    sent = λ e. absurd (false≢true (sym (frame-unmarked ack is_hexadecimal) ∙ (both_hold {a = is_marked_sent ack} e).0));
  }

  end-expects : (t : TransactionNumber) → sends Device t ≡ true → Expects (after_all third since) s id t
  end-expects t sent =
      let w = (keeps-waiting s id second waits-second (ack ∷ []) (ack-leaves, tt)).waits in
      let k = keeps-waiting s id third w since leave_too in
      expects (after_all third since) s id k.waits (k.opened (ack-line second good-second s id waits-second ack is_hexadecimal is_ack)) t sent

-- FROM THE LOG'S START
pub from-the-start : FromTheStart
from-the-start before opening s id opens between leave ack p e since leave_too t sent line octets a =
    let x = end-expects before opening s id opens between leave ack p e since leave_too t sent in
    every-answer (before ++ (opening ∷ (between ++ (ack ∷ since)))) s id t
    (rw (at-end before opening s id opens between leave ack p e since leave_too) x) line octets a
