-- A link from its opening on: lines without a segment or a Close for its Link ID leave it waiting for its first message.
use Prim.Native.Nat.{ℕ, ◌≤◌}
use Rattle.links.specs.declared.Answer.{Answer}
use Rattle.links.specs.declared.Refusal.{Refusal}
use Rattle.pb_adv.specs.declared.Frame.{Frame}
use Rattle.pb_adv.specs.declared.FrameRefusal.{FrameRefusal}
use native.Mathlib.Omega.{arith}
use mathlib.Core.Bool.{true, false, not, ◌&&◌, false≢true}
use mathlib.Core.List.{List, [], ◌∷◌}
use mathlib.Core.Logic.{◌≢◌}
use mathlib.Core.Path.{◌≡◌, refl, sym, ap, ◌∙◌, subst}
use lib.Dec.{eqb, leb}
use lib.ListN.{get_or, drop}
use borrow.Author.Tests.{eqb-true, eqb-false, eq-eqb, leb-true}
use Rattle.std.specs.Prelude.{Ok, Some, Option, None, Result, Err}
use Rattle.octets.specs.Numbers.{Octets}
use Rattle.octets.proofs.Tests.{cases, both_hold}
use Rattle.hexadecimal.specs.Hex.{octets_of}
use Rattle.transactions.specs.Numbers.{is_socket, socket_place}
use Rattle.transactions.specs.declared.Socket.{Socket}
use Rattle.transactions.specs.declared.TransactionNumber.{TransactionNumber}
use Rattle.pb_adv.specs.Frame.{parsed}
use Rattle.pb_adv.specs.declared.SegmentHeader.{SegmentHeader}
use Rattle.pb_adv.specs.declared.SegmentHeader.TheVariants.{Start, Continuation}
use Rattle.pb_adv.specs.declared.Frame.TheVariants as P
use Rattle.links.specs.Links.{provisioner, in_use, sends, find}
use Rattle.links.specs.Segments.{OneLink}
use Rattle.links.specs.Station.{Station, no_link, get_link, acknowledgement_step, frame_step, link_at}
use Rattle.links.specs.Operations.{receiving, opening, sending, closing, operate, after_all as operated}
use Rattle.links.specs.Promises.{addressed}
use Rattle.links.specs.Interleaving.{All}
use Rattle.links.specs.declared.Side.TheVariants.{Provisioner}
use Rattle.links.specs.declared.LinkState.{LinkState}
use Rattle.links.specs.declared.LinkState.TheVariants as S
use Rattle.links.specs.declared.Link.{Link}
use Rattle.links.proofs.Frames.{found-id}
use Rattle.links.proofs.Promises.{provisioner-step, received-at, local-calls}
use Rattle.links.proofs.Local.{open-used, send-after}
use Rattle.import_tray.specs.declared.Tray.{Tray}
use Rattle.import_frames.specs.Origins.{socket_at}
use Rattle.import_frames.specs.Sent.{sends_next, segment_sent, closed_at, sent_of}
use Rattle.import_frames.specs.declared.Asked.TheVariants as A
use Rattle.import_log.specs.Logs.{Import, after, after_all}
use Rattle.import_log.specs.Answers.{is_other, leaves_open, leaves_alone, Leaves}
use Rattle.import_log.proofs.Operations.{Does, hears, opens, sends as sends-segment, closes, nothing, does, operations_in, station_in, station-after, frame-octets}
use Rattle.import_log.proofs.Deliveries.{delivers}
use Rattle.import_log.proofs.Openings.{done-free}
use Rattle.import_log.proofs.Rows.{is_recorded}
use Rattle.import_log.proofs.Stock.{stock_in, StockAfter, same, opened, recorded, stock-after}

-- ---- a link that may have opened since, with its Link ID and what it received

record Later (l m : Link) : Type 0 where
  pub opened : l.state ≡ S.Open → m.state ≡ S.Open
  pub used : in_use l.state ≡ true → in_use m.state ≡ true
  pub id : m.id ≡ l.id
  pub last : m.last ≡ l.last
  pub half : m.half ≡ l.half

later_same : (l : Link) → Later l l
later_same l = record { opened = λ e. e; used = λ e. e; id = refl; last = refl; half = refl }

-- ---- a frame for it that is neither a segment nor a Close

other-id : (other id : ℕ) → is_other other id ≡ true → other ≢ id
other-id other id e q = absurd (false≢true (sym (ap not (eq-eqb other id q)) ∙ e))

module _ (σ : Station) (s id : ℕ) (has_id : (get_link s σ).link.id ≡ id) where
  -- another Link ID finds another link
  elsewhere : (other : ℕ) → is_other other id ≡ true → find σ.links other ≢ Some s
  elsewhere other e q = other-id other id e (found-id σ s other q ∙ has_id)

  module _ (f : List ℕ) (x : OneLink) where
    unmoved : Later x.link x.link
    unmoved = later_same x.link

    own-as : (state : LinkState) (p : Result Frame FrameRefusal) → leaves_alone id p ≡ true → addressed provisioner σ.links p ≡ Some s
        → Later x.link (frame_step Provisioner x state f p).1.link
    unfolding frame_step acknowledgement_step
    own-as S.Free p e q = unmoved
    own-as S.Opening (Ok (P.Segment g)) e q = unmoved
    own-as S.Opening (Ok (P.Acknowledgement i t)) e q = unmoved
    own-as S.Opening (Ok (P.Open i uuid)) e q = unmoved
    own-as S.Opening (Ok (P.Ack i)) e q = record { opened = λ _. refl; used = λ _. refl; id = refl; last = refl; half = refl }
    own-as S.Opening (Ok (P.Close i reason)) e q = absurd (elsewhere i e q)
    own-as S.Opening (Err r) e q = unmoved
    own-as S.Open (Ok (P.Segment g)) e q = absurd (elsewhere g.id e q)
    own-as S.Open (Ok (P.Acknowledgement i t)) e q =
        cases (sends Provisioner t)
        (λ u. rw u (cases (x.link.outstanding && eqb x.link.next.0 t.0)
        (λ v. rw v (record { opened = λ k. k; used = λ k. k; id = refl; last = refl; half = refl })) (λ v. rw v unmoved)))
        (λ u. rw u unmoved)
    own-as S.Open (Ok (P.Open i uuid)) e q = unmoved
    own-as S.Open (Ok (P.Ack i)) e q = unmoved
    own-as S.Open (Ok (P.Close i reason)) e q = absurd (elsewhere i e q)
    own-as S.Open (Err r) e q = unmoved

-- ---- a frame that is sent

module _ (tray : Tray) (s id : ℕ) (found-other : (other : ℕ) → is_other other id ≡ true → find tray.links other ≢ Some s) where
  -- a segment asks for no Close
  segment-asks : (found : Option ℕ) (t : TransactionNumber) (h : SegmentHeader) (w : Socket) → segment_sent tray.links found t h ≢ Ok (Some (A.Close w))
  segment-asks (Some j) t (Start n c) w q =
      cases (sends_next (get_or tray.links j no_link) t)
      (λ e. let r = rw e at q in let z : ◌≡◌ {A = ℕ} 0 1 = cc in absurd (omega arith))
      (λ e. let r = rw e at q in let z : ◌≡◌ {A = ℕ} 0 1 = cc in absurd (omega arith))
  segment-asks None t (Start n c) w q = let z : ◌≡◌ {A = ℕ} 0 1 = cc in absurd (omega arith)
  segment-asks found t (Continuation k) w q = let z : ◌≡◌ {A = ℕ} 0 1 = cc in absurd (omega arith)

  close-asks : (found : Option ℕ) (w : Socket) → found ≢ Some s → closed_at found ≡ Some (A.Close w) → s ≢ socket_place w
  close-asks (Some j) w h q e =
      let z : socket_at j ≡ w = cc in
      let i : j ≡ s = omega (arith, ap (λ (k : Socket). k.0) z) in
      h (ap Some i)
  close-asks None w h q e = let z : ◌≡◌ {A = ℕ} 0 1 = cc in absurd (omega arith)

  -- a Close that is sent is that of another socket
  asks-other : (p : Result Frame FrameRefusal) → leaves_open id p ≡ true → (w : Socket) → sent_of tray.links (addressed provisioner tray.links p) p ≡ Ok (Some (A.Close w)) → s ≢ socket_place w
  asks-other (Ok (P.Segment g)) e w q = absurd (segment-asks (find tray.links g.id) g.number g.header w q)
  asks-other (Ok (P.Acknowledgement i t)) e w q = let z : ◌≡◌ {A = ℕ} 0 1 = cc in absurd (omega arith)
  asks-other (Ok (P.Open i uuid)) e w q = let z : ◌≡◌ {A = ℕ} 0 1 = cc in absurd (omega arith)
  asks-other (Ok (P.Ack i)) e w q = let z : ◌≡◌ {A = ℕ} 0 1 = cc in absurd (omega arith)
  asks-other (Ok (P.Close i reason)) e w q =
      let r : closed_at (find tray.links i) ≡ Some (A.Close w) = cc in
      close-asks (find tray.links i) w (found-other i e) r
  asks-other (Err r) e w q = let z : ◌≡◌ {A = ℕ} 0 1 = cc in absurd (omega arith)

-- ---- a line that leaves it

module _ (m : Import) (s : Socket) (id : ℕ) (some : 1 ≤ s.0) (used : in_use (link_at m.log.tray.links s).state ≡ true)
    (has_id : (link_at m.log.tray.links s).id ≡ id) (line : List ℕ) (leaves : Leaves id line) where
  abbrev tray : Tray
  tray = m.log.tray

  abbrev σ : Station
  σ = station_in m

  abbrev LaterAt : Station → Type 0
  LaterAt τ = Later (link_at σ.links s) (link_at τ.links s)

  own : (get_link (socket_place s) σ).link.id ≡ id
  unfolding get_link
  own = has_id

  as_it_was : LaterAt σ
  as_it_was = later_same (link_at σ.links s)

  heard-link : (f : List ℕ) → Octets f → leaves_alone id (parsed f) ≡ true → LaterAt (operate provisioner σ (receiving f)).1
  unfolding get_link
  heard-link f o alone =
      let x = get_link (socket_place s) σ in
      received-at provisioner σ f o (socket_place s) (λ y. Later x.link y.link) (later_same x.link)
      (λ _ _ _ at _. subst (λ (r : Result Answer Refusal × OneLink). Later x.link r.1.link) (sym (provisioner-step x f (parsed f)))
      (own-as σ (socket_place s) id own f x x.link.state (parsed f) alone at))

  -- its socket is in use, so that an opening of it changes nothing
  open-link : (w : Socket) (i : ℕ) → LaterAt (operate provisioner σ (opening w i)).1
  open-link w i =
      cases (eqb (socket_place s) (socket_place w))
      (λ e. rw (open-used Provisioner tray.links w i (rw (← (eqb-true (socket_place s) (socket_place w) e)) used)) as_it_was)
      (λ e. rw ((local-calls.opening w i).leaves-others tray.links (socket_place s) (eqb-false (socket_place s) (socket_place w) e)) as_it_was)

  send-link : (w : Socket) (n : ℕ) → LaterAt (operate provisioner σ (sending w n)).1
  send-link w n =
      send-after Later later_same Provisioner tray.links w (socket_place s) n
      (λ l. record { opened = λ k. k; used = λ k. k; id = refl; last = refl; half = refl })

  close-link : (w : Socket) → socket_place s ≢ socket_place w → LaterAt (operate provisioner σ (closing w)).1
  close-link w other = rw ((local-calls.closing Provisioner w).leaves-others tray.links (socket_place s) other) as_it_was

  link-after : LaterAt (station_in (after m line))
  link-after = subst LaterAt (sym (station-after m line)) (of (does tray line))
    where
      of : Does tray line → LaterAt (operated provisioner σ (operations_in tray line))
      of (hears e q) = rw q (heard-link (octets_of line) (frame-octets line e) (leaves.heard e))
      of (opens e q) = rw q (open-link _ _)
      of (sends-segment w n q) = rw q (send-link w n)
      of (closes w e a q) =
          let other = asks-other tray (socket_place s) id (elsewhere σ (socket_place s) id own) (parsed (octets_of (drop 1 line))) (leaves.sent e) w a in
          rw q (close-link w other)
      of (nothing q) = rw q as_it_was

  -- no segment for it is delivered, and its socket is not opened
  stock-stays : stock_in (after m line) s ≡ stock_in m s
  unfolding get_link
  stock-stays = of (stock-after m line s some)
    where
      of : StockAfter m line s (stock_in (after m line) s) → stock_in (after m line) s ≡ stock_in m s
      of (same e) = e
      of (opened i w) = absurd (false≢true (sym (done-free tray.links s i w.done) ∙ used))
      of (recorded c was now d at r q) =
          let w = delivers σ (octets_of line) (frame-octets line d.is_hexadecimal) d.place d.long d.number d.is_for d.answer in
          let alone : is_other w.segment.id id ≡ true = rw w.is_segment at (leaves.heard d.is_hexadecimal) in
          absurd (other-id w.segment.id id alone (w.has_id ∙ ap (λ (j : ℕ). (get_or tray.links j no_link).id) at ∙ has_id))

-- ---- from the opening on

-- a socket in use under a Link ID, that has received nothing and has no record
pub record Waits (m : Import) (s : Socket) (id : ℕ) : Type 0 where
  pub numbered : is_socket s 8 ≡ true
  pub used : in_use (link_at m.log.tray.links s).state ≡ true
  pub has_id : (link_at m.log.tray.links s).id ≡ id
  pub last : (link_at m.log.tray.links s).last ≡ None
  pub half : (link_at m.log.tray.links s).half ≡ None
  pub no_record : is_recorded (stock_in m s) ≡ false

module _ (s : Socket) (id : ℕ) where
  -- it waits still, and is open if it was
  pub record Keeps (m n : Import) : Type 0 where
    pub waits : Waits n s id
    pub opened : (link_at m.log.tray.links s).state ≡ S.Open → (link_at n.log.tray.links s).state ≡ S.Open

  keeps_line : (m : Import) → Waits m s id → (line : List ℕ) → Leaves id line → Keeps m (after m line)
  keeps_line m w line h =
      let some = leb-true 1 s.0 (both_hold {a = leb 1 s.0} w.numbered).0 in
      let k = link-after m s id some w.used w.has_id line h in
      record {
        waits = record {
          numbered = w.numbered;
          used = k.used w.used;
          has_id = k.id ∙ w.has_id;
          last = k.last ∙ w.last;
          half = k.half ∙ w.half;
          no_record = ap is_recorded (stock-stays m s id some w.used w.has_id line h) ∙ w.no_record;
        };
        opened = k.opened;
      }

  pub keeps-waiting : (m : Import) → Waits m s id → (lines : List (List ℕ)) → All (Leaves id) lines → Keeps m (after_all m lines)
  keeps-waiting m w [] h = record { waits = w; opened = λ e. e }
  keeps-waiting m w (line ∷ lines) h =
      let k = keeps_line m w line h.0 in
      let r = keeps-waiting (after m line) k.waits lines h.1 in
      record { waits = r.waits; opened = λ e. r.opened (k.opened e) }
