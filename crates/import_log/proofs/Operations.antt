-- The lines of a log as operations of the station: what each does there, and the station after them, which is never bad.
use Prim.Native.Nat.{ℕ, zero, suc, ◌*◌, ◌-◌, ◌%◌, ◌≤◌}
use Rattle.links.specs.declared.Answer.{Answer}
use native.Mathlib.Omega.{arith}
use mathlib.Core.Bool.{true, false, cond}
use mathlib.Core.List.{List, [], ◌∷◌, ◌++◌, append_assoc}
use mathlib.Core.Path.{◌≡◌, refl, sym, ap, ◌∙◌}
use lib.Dec.{eqb, leb}
use lib.ListN.{length, drop, get_or, replicate}
use borrow.Author.Tests.{eqb-true, ne_eqb, leb-true, le-leb}
use Rattle.std.specs.Prelude.{Option, Some, None, Result, Ok, Err}
use Rattle.octets.specs.Numbers.{Octets}
use Rattle.octets.proofs.Tests.{cases, both_hold, holds-both}
use Rattle.hexadecimal.specs.Hex.{value_of, all_digits, is_hexadecimal, octets_of}
use Rattle.hexadecimal.proofs.Laws.{digit_at, octets-are-octets}
use Rattle.pb_adv.specs.Frame.{parsed}
use Rattle.transactions.specs.Numbers.{is_socket}
use Rattle.transactions.specs.declared.Socket.{Socket}
use Rattle.links.specs.Links.{provisioner, blank}
use Rattle.links.specs.Good.{good}
use Rattle.links.specs.Station.{Station, get_link, received, local_open, local_send, local_close}
use Rattle.links.specs.Interleaving.{All}
use Rattle.links.specs.Operations.{Operation, receiving, opening, sending, closing, operate, after_all as operated, Offered}
use Rattle.links.specs.Promises.{addressed}
use Rattle.links.specs.declared.Side.TheVariants.{Provisioner}
use Rattle.links.proofs.Interleaving.{after-append}
use Rattle.links.proofs.Lens.{Sized}
use Rattle.links.proofs.Promises.{receiving-keeps-good, receiving-keeps-size, operate-count, local-calls}
use Rattle.provisioning.specs.Message.{message_read}
use Rattle.provisioning.specs.declared.Message.{Message}
use Rattle.provisioning.specs.declared.MessageRefusal.{MessageRefusal}
use Rattle.provisioning.specs.declared.Capabilities.{Capabilities}
use Rattle.links.specs.declared.Refusal.{Refusal}
use Rattle.stock_table.specs.declared.Origin.{Origin}
use Rattle.import_tray.specs.Trays.{station_of, with_links}
use Rattle.import_tray.specs.declared.Stock.{Stock}
use Rattle.import_tray.specs.declared.Stock.TheVariants as K
use Rattle.import_tray.specs.declared.Tray.{Tray}
use Rattle.import_messages.specs.Messages.{reading_of, capabilities_by, message_by}
use Rattle.import_frames.specs.Origins.{outcome_of, frame_origin}
use Rattle.import_frames.specs.Heard.{delivered_step, heard_by, heard_step, heard_area}
use Rattle.import_frames.specs.Sent.{sent_of, local_by, sent_by, sent_step}
use Rattle.import_frames.specs.declared.Delivery.{Delivery}
use Rattle.import_frames.specs.declared.Asked.{Asked}
use Rattle.import_frames.specs.declared.Asked.TheVariants as A
use Rattle.log_lines.specs.Lines.{is_frame, is_marked_sent, is_sent, begins_opening, is_opening, is_passed, socket_in, id_in}
use Rattle.import_lines.specs.Lines.{opened_by, opened_step, plain_step, other_step, sent_line, unheard_step, line_step, line_area}
use Rattle.import_log.specs.Logs.{Import, after, after_all, at_first, number_in}

-- the digits of a frame
frame-digits : (line : List ℕ) → is_frame line ≡ true → all_digits line ≡ true
frame-digits line e = (both_hold {a = eqb (length line % 2) 0} {b = all_digits line} (both_hold {a = is_hexadecimal line} {b = leb 2 (length line)} e).0).1

-- ---- the operations of lines

-- what a sent frame asks
abbrev pub asked_operations : Result (Option Asked) Refusal → List Operation
asked_operations (Ok None) = []
asked_operations (Err r) = []
asked_operations (Ok (Some (A.Send socket n))) = sending socket n ∷ []
asked_operations (Ok (Some (A.Close socket))) = closing socket ∷ []

abbrev pub asked_by : Tray → List ℕ → Result (Option Asked) Refusal
asked_by tray f = sent_of tray.links (addressed provisioner tray.links (parsed f)) (parsed f)

abbrev pub sent_operations : Tray → List ℕ → List Operation
sent_operations tray f = asked_operations (asked_by tray f)

-- what a line does at the station of a tray, if anything
unfoldable pub operations_in : Tray → List ℕ → List Operation
operations_in tray line =
    cond (is_frame line) (receiving (octets_of line) ∷ [])
    (cond (is_marked_sent line) (cond (is_frame (drop 1 line)) (sent_operations tray (octets_of (drop 1 line))) [])
    (cond (is_opening line) (opening (socket_in line) (id_in line) ∷ []) []))

unfoldable pub operations_from : Import → List (List ℕ) → List Operation
operations_from m [] = []
operations_from m (line ∷ lines) = operations_in m.log.tray line ++ operations_from (after m line) lines

-- a line does at most one
pub data Does (tray : Tray) (line : List ℕ) : Type 0 where
  hears : is_frame line ≡ true → operations_in tray line ≡ receiving (octets_of line) ∷ [] → Does tray line
  opens : is_opening line ≡ true → operations_in tray line ≡ opening (socket_in line) (id_in line) ∷ [] → Does tray line
  sends : (s : Socket) (n : ℕ) → operations_in tray line ≡ sending s n ∷ [] → Does tray line
  closes : (s : Socket) → is_sent line ≡ true → asked_by tray (octets_of (drop 1 line)) ≡ Ok (Some (A.Close s)) → operations_in tray line ≡ closing s ∷ [] → Does tray line
  nothing : operations_in tray line ≡ [] → Does tray line

pub does : (tray : Tray) (line : List ℕ) → Does tray line
unfolding operations_in
does tray line =
    cases (is_frame line) (λ e. hears e (rw e)) (λ e.
    cases (is_marked_sent line) (λ g.
    cases (is_frame (drop 1 line)) (λ h. asked (holds-both g h) (asked_by tray (octets_of (drop 1 line))) refl (rw (e, g, h)))
    (λ h. nothing (rw (e, g, h)))) (λ g.
    cases (is_opening line) (λ h. opens h (rw (e, g, h))) (λ h. nothing (rw (e, g, h)))))
  where
    asked : is_sent line ≡ true → (a : Result (Option Asked) Refusal) → asked_by tray (octets_of (drop 1 line)) ≡ a → operations_in tray line ≡ asked_operations a → Does tray line
    asked h (Ok None) q e = nothing e
    asked h (Err r) q e = nothing e
    asked h (Ok (Some (A.Send s n))) q e = sends s n e
    asked h (Ok (Some (A.Close s))) q e = closes s h q e

-- ---- openings

-- a line that begins as an opening has a space, so it is no frame, and is not marked as sent
opening-form : (line : List ℕ) → is_opening line ≡ true → (length line ≡ 10) × (49 ≤ get_or line 0 0) × (get_or line 0 0 ≤ 56) × (get_or line 1 0 ≡ 32)
unfolding begins_opening
opening-form line e =
    let a = both_hold {a = eqb (length line) 10} (both_hold {a = begins_opening line} e).0 in
    let b = both_hold {a = leb 49 (get_or line 0 0)} a.1 in
    let d = both_hold {a = leb (get_or line 0 0) 56} b.1 in
    (eqb-true (length line) 10 a.0, leb-true 49 (get_or line 0 0) b.0, leb-true (get_or line 0 0) 56 d.0, eqb-true (get_or line 1 0) 32 d.1)

pub opening-no-frame : (line : List ℕ) → is_opening line ≡ true → is_frame line ≡ false
unfolding value_of
opening-no-frame line e =
    let w = opening-form line e in
    cases (is_frame line)
    (λ f. let d = digit_at line 1 (frame-digits line f) (omega (arith, w.0)) in
    let v : value_of (get_or line 1 0) ≡ 16 = rw w.3 in
    absurd (omega arith))
    (λ f. f)

pub opening-unmarked : (line : List ℕ) → is_opening line ≡ true → is_marked_sent line ≡ false
opening-unmarked line e = let w = opening-form line e in ne_eqb (get_or line 0 0) 62 (omega (arith, w.2))

pub frame-unmarked : (line : List ℕ) → is_frame line ≡ true → is_marked_sent line ≡ false
unfolding value_of
frame-unmarked line f =
    let two = leb-true 2 (length line) (both_hold {a = is_hexadecimal line} {b = leb 2 (length line)} f).1 in
    let d = digit_at line 0 (frame-digits line f) (omega arith) in
    ne_eqb (get_or line 0 0) 62 (λ e. let v : value_of (get_or line 0 0) ≡ 16 = rw e in absurd (omega arith))

pub opening-socket : (line : List ℕ) → is_opening line ≡ true → is_socket (socket_in line) 8 ≡ true
opening-socket line e =
    let w = opening-form line e in
    holds-both (le-leb 1 (get_or line 0 0 - 48) (omega (arith, w.1))) (le-leb (get_or line 0 0 - 48) 8 (omega (arith, w.2)))

pub opening-operations : (tray : Tray) (line : List ℕ) → is_opening line ≡ true → operations_in tray line ≡ opening (socket_in line) (id_in line) ∷ []
unfolding operations_in
opening-operations tray line e = rw (opening-no-frame line e, opening-unmarked line e, e)

pub opened-by : (tray : Tray) (line : List ℕ) (s : Socket) (id : ℕ) → operations_in tray line ≡ opening s id ∷ []
    → (is_opening line ≡ true) × (socket_in line ≡ s) × (id_in line ≡ id)
opened-by tray line s id e = of (does tray line)
  where
    of : Does tray line → (is_opening line ≡ true) × (socket_in line ≡ s) × (id_in line ≡ id)
    of (hears f q) = let z : ◌≡◌ {A = ℕ} 0 1 = cc in absurd (omega arith)
    of (opens f q) = (f, cc, cc)
    of (sends t n q) = let z : ◌≡◌ {A = ℕ} 0 1 = cc in absurd (omega arith)
    of (closes t h g q) = let z : ◌≡◌ {A = ℕ} 0 1 = cc in absurd (omega arith)
    of (nothing q) = let z : ◌≡◌ {A = ℕ} 0 1 = cc in absurd (omega arith)

-- ---- the station after a line

abbrev pub station_in : Import → Station
station_in m = station_of m.log.tray m.area

-- a message that was delivered leaves the records
read-links : (r : Result (Option Capabilities) MessageRefusal) (tray : Tray) (s line : ℕ) (origin : Origin) (m : Result Message MessageRefusal) → (message_by r tray s line origin m).tray.links ≡ tray.links
read-links (Ok (Some c)) tray s line origin m = by (get_or tray.stock s _)
  where
    by : (k : Stock) → (capabilities_by k tray s line origin c).tray.links ≡ tray.links
    by K.Unopened = refl
    by K.Missing = refl
    by (K.Recorded first) = refl
read-links (Err n) tray s line origin m = refl
read-links (Ok None) tray s line origin m = refl

heard-links : (tray : Tray) (area : List ℕ) (number : ℕ) (f : List ℕ)
    → (heard_step tray area number f).tray.links ≡ (received provisioner (station_of tray area) f).1.links
unfolding heard_step
heard-links tray area number f = by (outcome_of done.0)
  where
    done : Result Answer Refusal × Station
    done = received provisioner (station_of tray area) f

    at : (found : Option ℕ) (t : Tray) (n : ℕ) → (delivered_step found (parsed f) t done.1.area number n).tray.links ≡ t.links
    at (Some s) t n = let m = message_read _ in read-links (reading_of m) t s number (frame_origin (Some s) (parsed f)) m
    at None t n = refl

    by : (o : Result (Option Delivery) Refusal) → (heard_by o tray.links (parsed f) (with_links tray done.1.links) done.1.area number).tray.links ≡ done.1.links
    by (Err r) = refl
    by (Ok (Some d)) = at (addressed provisioner tray.links (parsed f)) _ d.length
    by (Ok None) = refl

open-links : (tray : Tray) (number : ℕ) (s : Socket) (id : ℕ) → (opened_step tray number s id).tray.links ≡ (local_open Provisioner tray.links s id).1
unfolding opened_step
open-links tray number s id = let r = local_open Provisioner tray.links s id in by (with_links tray r.1) (outcome_of r.0)
  where
    by : (t : Tray) (o : Result (Option Delivery) Refusal) → (opened_by o t number s id).tray.links ≡ t.links
    by t (Err r) = refl
    by t (Ok d) = refl

local-links : (o : Result (Option Delivery) Refusal) (tray : Tray) (number : ℕ) (origin : Origin) → (local_by o tray number origin).tray.links ≡ tray.links
local-links (Err r) tray number origin = refl
local-links (Ok d) tray number origin = refl

sent-station : (tray : Tray) (area : List ℕ) (number : ℕ) (f : List ℕ)
    → station_of (sent_step tray number f).tray area ≡ operated provisioner (station_of tray area) (sent_operations tray f)
unfolding sent_step
sent-station tray area number f = by (asked_by tray f)
  where
    origin : Origin
    origin = frame_origin (addressed provisioner tray.links (parsed f)) (parsed f)

    by : (a : Result (Option Asked) Refusal) → station_of (sent_by a tray number origin).tray area ≡ operated provisioner (station_of tray area) (asked_operations a)
    by (Ok None) = refl
    by (Err r) = refl
    by (Ok (Some (A.Send s n))) =
        let r = local_send Provisioner tray.links s n in
        λ i. record { links = local-links (outcome_of r.0) (with_links tray r.1) number origin i; area = area }
    by (Ok (Some (A.Close s))) =
        let r = local_close Provisioner tray.links s in
        λ i. record { links = local-links (outcome_of r.0) (with_links tray r.1) number origin i; area = area }

pub station-after : (m : Import) (line : List ℕ) → station_in (after m line) ≡ operated provisioner (station_in m) (operations_in m.log.tray line)
unfolding line_step line_area unheard_step sent_line other_step plain_step operations_in heard_area
station-after m line =
    let tray = m.log.tray in
    cases (is_frame line)
    (λ e. rw e (λ i. record {
      links = heard-links tray m.area (number_in m) (octets_of line) i;
      area = (received provisioner (station_in m) (octets_of line)).1.area;
    }))
    (λ e. rw e (cases (is_marked_sent line)
    (λ g. rw g (cases (is_frame (drop 1 line)) (λ h. rw h (sent-station tray m.area (number_in m) (octets_of (drop 1 line)))) (λ h. rw h)))
    (λ g. rw g (cases (is_opening line)
    (λ h. rw h (λ i. record { links = open-links tray (number_in m) (socket_in line) (id_in line) i; area = m.area }))
    (λ h. rw h (cases (is_passed line) (λ p. rw p) (λ p. rw p)))))))

pub heard-station : (m : Import) (line : List ℕ) → is_frame line ≡ true → station_in (after m line) ≡ (received provisioner (station_in m) (octets_of line)).1
unfolding operations_in
heard-station m line e = station-after m line ∙ rw e

pub stations-after : (m : Import) (lines : List (List ℕ)) → station_in (after_all m lines) ≡ operated provisioner (station_in m) (operations_from m lines)
unfolding operations_from
stations-after m [] = refl
stations-after m (line ∷ lines) =
    stations-after (after m line) lines
    ∙ rw (station-after m line)
    (sym (after-append (operate provisioner) (station_in m) (operations_in m.log.tray line) (operations_from (after m line) lines)))

-- ---- lines behind lines

pub after-lines : (m : Import) (a b : List (List ℕ)) → after_all m (a ++ b) ≡ after_all (after_all m a) b
after-lines m [] b = refl
after-lines m (line ∷ a) b = after-lines (after m line) a b

pub operations-append : (m : Import) (a b : List (List ℕ)) → operations_from m (a ++ b) ≡ operations_from m a ++ operations_from (after_all m a) b
unfolding operations_from
operations-append m [] b = refl
operations-append m (line ∷ a) b =
    ap (λ (l : List Operation). operations_in m.log.tray line ++ l) (operations-append (after m line) a b)
    ∙ sym (append_assoc (operations_in m.log.tray line) (operations_from (after m line) a) (operations_from (after_all (after m line) a) b))

-- ---- what is received are octets

pub frame-octets : (line : List ℕ) → is_frame line ≡ true → Octets (octets_of line)
frame-octets line e = octets-are-octets line (frame-digits line e)

pub all_append : (a b : List Operation) → All (Offered provisioner) a → All (Offered provisioner) b → All (Offered provisioner) (a ++ b)
all_append [] b h k = k
all_append (c ∷ a) b h k = (h.0, all_append a b h.1 k)

pub line-octets : (tray : Tray) (line : List ℕ) → All (Offered provisioner) (operations_in tray line)
line-octets tray line = of (does tray line)
  where
    of : Does tray line → All (Offered provisioner) (operations_in tray line)
    of (hears e q) = rw q (frame-octets line e, tt)
    of (opens e q) = rw q (refl, tt)
    of (sends s n q) = rw q (tt, tt)
    of (closes s h g q) = rw q (tt, tt)
    of (nothing q) = rw q tt

pub lines-octets : (m : Import) (lines : List (List ℕ)) → All (Offered provisioner) (operations_from m lines)
unfolding operations_from
lines-octets m [] = tt
lines-octets m (line ∷ lines) =
    all_append (operations_in m.log.tray line) (operations_from (after m line) lines) (line-octets m.log.tray line) (lines-octets (after m line) lines)

-- ---- the station after lines

-- eight records in a state that isn't bad, and an area for them
pub record Right (σ : Station) : Type 0 where
  pub count : length σ.links ≡ 8
  pub sized : Sized σ
  pub is_good : good Provisioner σ.links ≡ true

right-after-one : (σ : Station) (c : Operation) → Offered provisioner c → Right σ → Right (operate provisioner σ c).1
right-after-one σ c o r = record { count = operate-count provisioner σ c ∙ r.count; sized = size c o; is_good = stays c o }
  where
    size : (c : Operation) → Offered provisioner c → Sized (operate provisioner σ c).1
    size (receiving f) o = receiving-keeps-size provisioner σ f o r.sized
    size (opening s id) o = r.sized ∙ ap (λ (n : ℕ). 1469 * n) (sym (operate-count provisioner σ (opening s id)))
    size (sending s n) o = r.sized ∙ ap (λ (n : ℕ). 1469 * n) (sym (operate-count provisioner σ (sending s n)))
    size (closing s) o = r.sized ∙ ap (λ (n : ℕ). 1469 * n) (sym (operate-count provisioner σ (closing s)))

    stays : (c : Operation) → Offered provisioner c → good Provisioner (operate provisioner σ c).1.links ≡ true
    stays (receiving f) o = receiving-keeps-good provisioner σ f o r.is_good
    stays (opening s id) o = (local-calls.opening s id).keeps-good σ.links r.is_good
    stays (sending s n) o = (local-calls.sending Provisioner s n).keeps-good σ.links r.is_good
    stays (closing s) o = (local-calls.closing Provisioner s).keeps-good σ.links r.is_good

right-after : (σ : Station) (operations : List Operation) → All (Offered provisioner) operations → Right σ → Right (operated provisioner σ operations)
right-after σ [] o r = r
right-after σ (c ∷ operations) o r = right-after (operate provisioner σ c).1 operations o.1 (right-after-one σ c o.0 r)

right-at-first : Right (station_in at_first)
unfolding good
right-at-first = record { count = refl; sized = refl; is_good = refl }

pub right : (lines : List (List ℕ)) → Right (station_in (after_all at_first lines))
right lines = rw (stations-after at_first lines) (right-after (station_in at_first) (operations_from at_first lines) (lines-octets at_first lines) right-at-first)

-- at the start every record is blank
same-all : {B : Type 0} (n i : ℕ) (b : B) → get_or (replicate n b) i b ≡ b
same-all zero i b = refl
same-all (suc n) zero b = refl
same-all (suc n) (suc i) b = same-all n i b

pub at-start : (s : ℕ) → (get_link s (station_in at_first)).link ≡ blank Provisioner
unfolding get_link
at-start s = same-all 8 s (blank Provisioner)
