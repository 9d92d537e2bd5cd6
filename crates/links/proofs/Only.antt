-- Demand 2, only: any operations and any octets; what a link delivers came by its cut, from the Start that began it on.
use Prim.Native.Nat.{ℕ, zero, suc, ◌≤◌, ◌<◌}
use Rattle.links.specs.declared.Answer.{Answer}
use Rattle.links.specs.declared.Refusal.{Refusal}
use Rattle.pb_adv.specs.declared.Frame.{Frame}
use Rattle.pb_adv.specs.declared.FrameRefusal.{FrameRefusal}
use Rattle.std.specs.Prelude.{Option, Some, None, Result, Ok, Err}
use native.Mathlib.Omega.{arith}
use mathlib.Core.Bool.{true, false≢true}
use mathlib.Core.List.Memᴰ
use mathlib.Core.List.{List, [], ◌∷◌, ◌++◌, append_assoc, append-nil, Memᴰ}
use mathlib.Core.Logic.{◌≢◌}
use mathlib.Core.Path.{◌≡◌, refl, sym, ap, ◌∙◌, subst}
use lib.Dec.{eqb}
use lib.ListN.{length, get_or, take}
use lib.Seq.{append_snoc, length-take-le}
use borrow.Author.Tests.{eqb-true, eqb-false}
use Rattle.transactions.specs.Numbers.{socket_place}
use Rattle.octets.specs.Numbers.{Octets}
use Rattle.octets.specs.Parts.{part, write}
use Rattle.octets.proofs.Parts.{write-length}
use Rattle.octets.proofs.Cut.{place_up, piece-take}
use Rattle.octets.proofs.Tests.{cases}
use Rattle.fcs.specs.Fcs.{check_octet}
use Rattle.transactions.specs.Segments.{seg_n, segment_place}
use Rattle.pb_adv.specs.Frame.{parsed, segment_octets}
use Rattle.transactions.specs.declared.TransactionNumber.{TransactionNumber}
use Rattle.transactions.specs.declared.Socket.{Socket}
use Rattle.pb_adv.specs.declared.SegmentHeader.{SegmentHeader}
use Rattle.pb_adv.proofs.Promises.{segments-are-encodings}
use Rattle.pb_adv_writing.specs.Writing.{header_of, segment_frame}
use Rattle.links.specs.Marks.{is_marked, with_mark, all_marked}
use Rattle.links.specs.Links.{End, side_of}
use Rattle.links.specs.Good.{good_link, good}
use Rattle.links.specs.Segments.{OneLink, marked}
use Rattle.links.specs.Station.{Station, no_link, get_link, open_step, is_right, received}
use Rattle.links.specs.Interleaving.{All, BeforeEach}
use Rattle.links.specs.Operations.{Operation, receiving, opening, sending, closing, operate, after_all, Offered}
use Rattle.links.specs.Promises.{addressed}
use Rattle.links.specs.Demand2.{OpenUnder, Receiving, CameByCut, FromCut, Delivery, Only}
use Rattle.links.specs.declared.LinkState.TheVariants as S
use Rattle.links.specs.declared.HalfMessage.{HalfMessage}
use Rattle.links.specs.declared.Link.{Link}
use Rattle.links.specs.declared.Answer.TheVariants as A
use Rattle.links.proofs.Marks.{marked_other, none-marked, all-marked-each}
use Rattle.links.proofs.Interleaving.{after-append, before-each-snoc}
use Rattle.links.proofs.Deliver.{segment_in, segment-fits-in, segment-same, segment-other}
use Rattle.links.proofs.View.{header_at, IfDelivered, if-delivered, Origin, held, begins, New}
use Rattle.links.proofs.Sound.{Kept, stays, drops, kept_same, Ends, is_whole, is_wrong, is_kept, ends, keeps, enters, frame-does}
use Rattle.links.proofs.Local.{open_after, send-after, close-after}
use Rattle.links.proofs.Sound as Link
use Rattle.links.proofs.Lens.{right-sized, part-size, get-put, good-get}
use Rattle.links.proofs.Keep.{GoodMessage, message-out, open-out, good-as}
use Rattle.links.proofs.Promises.{step_of, by-step, placed, refuses, steps, does, stepped-keeps, received-at, after-count}
use Rattle.links.proofs.Promises as Promise
use Rattle.links.proofs.Opens.{Opens, finds, begins, openings}
use Rattle.links.proofs.Opens as Opening
use Rattle.links.proofs.Frames.{found-id, of_cut_lem}
use Rattle.links.proofs.Answers.{IsDelivered, delivered-told}
use Rattle.links.proofs.Sockets.{socket_at, is-socket}

-- ---- an Open at a device's link leaves what is half-received, or drops it

open-does : (own : List ℕ) (x : OneLink) (f : List ℕ) (o : Octets f) (id uuid : ℕ) {p : Result Frame FrameRefusal} → Link.Does x f o p (open_step own x f id uuid)
open-does own x f o id uuid {p} = of (openings own x f id uuid)
  where
    of : {q : Result Answer Refusal × OneLink} → Opens own x f id uuid q → Link.Does x f o p q
    of (Opening.refuses r n e) = rw e (keeps tt refl (kept_same x.link))
    of (finds e) = rw e (keeps tt refl (kept_same x.link))
    of (begins u n e) = rw e (keeps tt refl (drops refl))

step-does : (end : End) (x : OneLink) (f : List ℕ) (o : Octets f) → Link.Does x f o (parsed f) (step_of end x f (parsed f))
step-does end x f o =
    by-step (Link.Does x f o (parsed f)) end x f (parsed f) (λ own id uuid _ _. open-does own x f o id uuid) (frame-does x f o (side_of end))

-- ---- a half-received message, if there is one

abbrev IfHalf : (HalfMessage → Type 0) → Option HalfMessage → Type 0
IfHalf P None = Unit {0}
IfHalf P (Some h) = P h

if-half : (P Q : HalfMessage → Type 0) (o : Option HalfMessage) → ((h : HalfMessage) → o ≡ Some h → P h → Q h) → IfHalf P o → IfHalf Q o
if-half P Q None g i = tt
if-half P Q (Some h) g i = g h refl i

-- segment k of the half-received message h, as it stands in the part p
abbrev standing : ℕ → List ℕ → HalfMessage → ℕ → Operation
standing id p h k = receiving (segment_octets id h.number (header_at h.length h.check k) (segment_in h.length p k))

-- other marks
abbrev remarked : HalfMessage → ℕ → HalfMessage
remarked h w = record { number = h.number; length = h.length; check = h.check; marks = w }

module _ (end : End) (σ : Station) (socket : Socket) where
  -- its place
  abbrev s : ℕ
  s = socket_place socket

  abbrev after : List Operation → Station
  after past = after_all end σ past

  -- the half-received message h, whose octets stand in p: a Start began it, the link has had it since, and every marked segment has come since
  record Since (past : List Operation) (id : ℕ) (p : List ℕ) (h : HalfMessage) : Type 0 where
    before : List Operation
    start : Operation
    since : List Operation
    split : past ≡ before ++ (start ∷ since)
    opened : OpenUnder id (get_link s (after before))
    began : (g : HalfMessage) → (get_link s (after before)).link.half ≡ Some g → g.number ≢ h.number
    held : BeforeEach (operate end) (λ τ. Receiving id h.number h.length (get_link s τ)) (after (before ++ (start ∷ []))) since
    first : start ≡ standing id p h 0
    came : (k : ℕ) → k ≤ seg_n h.length → is_marked h.marks k ≡ true → Memᴰ (standing id p h k) (start ∷ since)

  -- a link whose half-received message, if any, is such
  abbrev Sound : List Operation → OneLink → Type 0
  Sound past x = IfHalf (λ h. (x.link.state ≡ S.Open) × Since past x.link.id x.part h) x.link.half

  -- with every segment marked, and the right check octet: the message came by its cut
  module _ (past : List Operation) (id : ℕ) (p : List ℕ) (h : HalfMessage) (room : h.length ≤ length p) (right : check_octet (take h.length p) ≡ h.check) where
    abbrev message : List ℕ
    message = take h.length p

    long : length message ≡ h.length
    long = length-take-le h.length p room

    header-same : (k : ℕ) → header_of message k ≡ header_at h.length h.check k
    unfolding header_of
    header-same zero = rw (long, right)
    header-same (suc k) = refl

    frame_same : (k : ℕ) → receiving (segment_frame id h.number message k) ≡ standing id p h k
    unfolding segment_frame
    frame_same k = rw (header-same k, long, piece-take segment_place refl (place_up 20 23) h.length p k)

    by-cut : Since past id p h → all_marked (seg_n h.length) h.marks ≡ true → CameByCut end σ socket id (record { number = h.number; octets = message }) past
    by-cut i all = record {
      before = i.before;
      start = i.start;
      since = i.since;
      split = i.split;
      is_start = i.first ∙ sym (frame_same 0);
      opened = i.opened;
      began = i.began;
      held = rw long i.held;
      cut = λ f g.
          let r = of_cut_lem id h.number message (suc (seg_n (length message))) f g in
          let b : r.index ≤ seg_n h.length = omega (arith, r.below, long) in
          Memᴰ.cast (ap receiving r.is ∙ frame_same r.index) (i.came r.index b (all-marked-each (seg_n h.length) h.marks all r.index b));
    }

  -- one operation more
  module _ (past : List Operation) (c : Operation) where
    abbrev here : OneLink
    here = get_link s (after past)

    -- what an operation leaves of the link
    record Leaves (r : Result Answer Refusal × OneLink) : Type 0 where
      half : Sound (past ++ (c ∷ [])) r.1
      told : IfDelivered (λ n t. (length (take n r.1.part) ≡ n) × CameByCut end σ socket here.link.id (record { number = t; octets = take n r.1.part }) (past ++ (c ∷ []))) r.0

    extends : (id : ℕ) (p : List ℕ) (h : HalfMessage) (i : Since past id p h) → Receiving id h.number h.length here
        → (q : List ℕ) (w : ℕ) → standing id p h 0 ≡ standing id q h 0
        → ((k : ℕ) → k ≤ seg_n h.length → is_marked w k ≡ true → Memᴰ (standing id q h k) (i.start ∷ (i.since ++ (c ∷ []))))
        → Since (past ++ (c ∷ [])) id q (remarked h w)
    extends id p h i now q w e g = record {
      before = i.before;
      start = i.start;
      since = i.since ++ (c ∷ []);
      split = ap (λ (l : List Operation). l ++ (c ∷ [])) i.split ∙ append_assoc i.before (i.start ∷ i.since) (c ∷ []);
      opened = i.opened;
      began = i.began;
      held = before-each-snoc (operate end) _ σ i.before i.start i.since c i.held (rw (← i.split) now);
      first = i.first ∙ e;
      came = g;
    }

    now : (h : HalfMessage) → here.link.half ≡ Some h → here.link.state ≡ S.Open → Receiving here.link.id h.number h.length here
    now h g o = record { under = record { is_open = o; has_id = refl }; half = h; is_half = g; number = refl; long = refl }

    -- that leaves what is half-received, or drops it
    goes_on : (y : OneLink) → Sound past here → y.part ≡ here.part → Kept here.link y.link → Sound (past ++ (c ∷ [])) y
    goes_on y i e (stays o id half) =
        rw half (if-half (λ h. (here.link.state ≡ S.Open) × Since past here.link.id here.part h) _ here.link.half (λ h g r. (
          o r.0,
          rw (id, e) (extends here.link.id here.part h r.1 (now h g r.0) here.part h.marks refl (λ k b u. Memᴰ.append_left (c ∷ []) (r.1.came k b u))),
        )) i)
    goes_on y i e (drops half) = rw half tt

    -- that brings a new segment
    module _ (sized : length here.part ≡ 1469) (link_good : good_link (side_of end) here.link ≡ true) (opened : here.link.state ≡ S.Open) (i : Sound past here)
        (t : TransactionNumber) (header : SegmentHeader) (d : List ℕ) (h : HalfMessage) (k : ℕ) (n : New here t header d h k)
        (this : c ≡ receiving (segment_octets here.link.id t header d)) where
      abbrev id : ℕ
      id = here.link.id

      abbrev written : List ℕ
      written = write here.part (segment_place k) d

      good-half : here.link.half ≡ Some h → GoodMessage (side_of end) here.link.last h
      good-half e =
          let o = open-out (side_of end) here.link (good-as (side_of end) here.link opened link_good) in
          message-out (side_of end) here.link.last h (rw e at o.2)

      lengths : Origin here t header d h k → (1 ≤ h.length) × (h.length ≤ length here.part)
      lengths (held e) = let g = good-half e in (g.some-octets, omega (arith, g.few-octets))
      lengths (begins m v e z some few _) = rw e (some, omega arith)

      some : 1 ≤ h.length
      some = (lengths n.origin).0

      room : h.length ≤ length here.part
      room = (lengths n.origin).1

      arrived : standing id written h k ≡ c
      arrived = rw (this, segment-same h.length here.part k d some room n.inside n.right, n.number, ← n.this)

      other : (j : ℕ) → k ≢ j → standing id here.part h j ≡ standing id written h j
      other j z = rw (segment-other h.length here.part k d some room n.inside n.right j z)

      grows : Since (past ++ (c ∷ [])) id written (marked h k)
      grows = from n.origin
        where
          from : Origin here t header d h k → Since (past ++ (c ∷ [])) id written (marked h k)
          from (held e) =
              let r : (here.link.state ≡ S.Open) × Since past id here.part h = rw e at i in
              extends id here.part h r.1 (now h e opened) written (with_mark h.marks k)
              (other 0 (λ z. false≢true (sym n.missing ∙ ap (is_marked h.marks) z ∙ (good-half e).first)))
              (λ j b u. cases (eqb k j)
              (λ z. rw (← (eqb-true k j z)) (Memᴰ.append_right (r.1.start ∷ r.1.since) (Memᴰ.head arrived)))
              (λ z. let y = eqb-false k j z in Memᴰ.append_left (c ∷ []) (Memᴰ.cast (sym (other j y)) (r.1.came j b (sym (marked_other h.marks k j y) ∙ u)))))
          from (begins m v e z _ _ none) = record {
            before = past;
            start = c;
            since = [];
            split = refl;
            opened = record { is_open = opened; has_id = refl };
            began = λ g q r. none g q (r ∙ n.number);
            held = tt;
            first = sym arrived ∙ ap (standing id written h) z;
            came = λ j b u. cases (eqb k j)
                (λ y. rw (← (eqb-true k j y)) (Memᴰ.head arrived))
                (λ y. absurd (false≢true (sym (none-marked j) ∙ sym (ap (λ (g : HalfMessage). is_marked g.marks j) e) ∙ sym (marked_other h.marks k j (eqb-false k j y)) ∙ u)));
          }

      ended : {r : Result Answer Refusal × OneLink} → Ends here h k d r → Leaves r
      ended (is_whole all right e) =
          let size : length written ≡ length here.part = write-length here.part (segment_place k) d (segment-fits-in h.length here.part k d some room n.inside n.right) in
          let fits : h.length ≤ length written = rw size room in
          rw e (record { half = tt; told = (length-take-le h.length written fits, by-cut (past ++ (c ∷ [])) id written (marked h k) fits right grows all) })
      ended (is_wrong e) = rw e (record { half = tt; told = tt })
      ended (is_kept e) = rw e (record { half = (opened, grows); told = tt })

  -- ---- any octets received

  module _ (past : List Operation) (f : List ℕ) (o : Octets f) (i : Sound past (get_link s (after past))) where
    same : Sound (past ++ (receiving f ∷ [])) (get_link s (after past))
    same = goes_on past (receiving f) (get_link s (after past)) i refl (kept_same (get_link s (after past)).link)

    at-link : is_right end (after past) ≡ true → good (side_of end) (after past).links ≡ true → s < length (after past).links → addressed end (after past).links (parsed f) ≡ Some s
        → Leaves past (receiving f) (step_of end (get_link s (after past)) f (parsed f))
    at-link right state_good below at = of (step-does end (get_link s (after past)) f o)
      where
        of : {r : Result Answer Refusal × OneLink} → Link.Does (get_link s (after past)) f o (parsed f) r → Leaves past (receiving f) r
        of {r} (keeps q e k) = record { half = goes_on past (receiving f) r.1 i e k; told = if-delivered (λ n t. ⊥) _ (λ n t z. absurd z) r.0 q }
        of {r} (enters g e opened h k n q) =
            let d = part f g.from g.count in
            let w = segments-are-encodings f o g e in
            let id = found-id (after past) s g.id (rw e at at) in
            rw q (ended past (receiving f) (part-size (length (after past).links) (after past) refl (right-sized end (after past) right) s below) (good-get (side_of end) (after past) s state_good below) opened i
            g.number g.header d h k n (ap receiving (w.encoded ∙ ap (λ (j : ℕ). segment_octets j g.number g.header d) id)) (ends (get_link s (after past)) h k d))

    received-sound : Sound (past ++ (receiving f ∷ [])) (get_link s (received end (after past) f).1)
    received-sound = received-at end (after past) f o s (Sound (past ++ (receiving f ∷ []))) same (λ right state_good below at _. (at-link right state_good below at).half)

  -- ---- any operations

  local-sound : (past : List Operation) (c : Operation) (ls : List Link) → Sound past (get_link s (after past))
      → Kept (get_or (after past).links s no_link) (get_or ls s no_link) → Sound (past ++ (c ∷ [])) (get_link s (record { links = ls; area = (after past).area }))
  unfolding get_link
  local-sound past c ls i k = goes_on past c _ i refl k

  operate-sound : (past : List Operation) (c : Operation) → Offered end c → Sound past (get_link s (after past)) → Sound (past ++ (c ∷ [])) (get_link s (operate end (after past) c).1)
  operate-sound past (receiving f) o i = received-sound past f o i
  operate-sound past (opening w id) o i = local-sound past _ _ i (open_after Kept kept_same (side_of end) (after past).links w s id (λ l. drops refl))
  operate-sound past (sending w n) o i = local-sound past _ _ i (send-after Kept kept_same (side_of end) (after past).links w s n (λ l. stays (λ e. e) refl refl))
  operate-sound past (closing w) o i = local-sound past _ _ i (close-after Kept kept_same (side_of end) (after past).links w s (λ l. drops refl))

  runs : (a b : List Operation) → All (Offered end) b → Sound a (get_link s (after a)) → Sound (a ++ b) (get_link s (after (a ++ b)))
  runs a [] o i = rw (append-nil a) i
  runs a (c ∷ b) o i =
      rw (← (append_snoc a c b)) (runs (a ++ (c ∷ [])) b o.1 (rw (after-append (operate end) σ a (c ∷ [])) (operate-sound a c o.0 i)))

-- ---- a delivery

module _ (end : End) (σ : Station) (operations : List Operation) (all : All (Offered end) operations) (f : List ℕ) (o : Octets f) (values : List ℕ)
    (delivered : IsDelivered (received end (after_all end σ operations) f).0 values) where
  abbrev τ : Station
  τ = after_all end σ operations

  abbrev n : ℕ
  n = delivered.long

  delivers : (socket : Socket) → is_right end τ ≡ true → good (side_of end) τ.links ≡ true → socket_place socket < length τ.links → addressed end τ.links (parsed f) ≡ Some (socket_place socket)
      → received end τ f ≡ placed τ (socket_place socket) (step_of end (get_link (socket_place socket) τ) f (parsed f)) → (get_link (socket_place socket) σ).link.half ≡ None → FromCut end σ socket operations f values
  delivers socket right state_good below at q nothing =
      let s = socket_place socket in
      let r = step_of end (get_link s τ) f (parsed f) in
      let u = at-link end σ socket operations f o (runs end σ socket [] operations all (rw nothing tt)) right state_good below at in
      let last : get_link s (after_all end σ (operations ++ (receiving f ∷ []))) ≡ r.1 =
      ap (get_link s) (after-append (operate end) σ operations (receiving f ∷ []) ∙ ap (λ (p : Result Answer Refusal × Station). p.1) q) ∙ (get-put (length τ.links) τ refl (right-sized end τ right) s below r.1 (stepped-keeps end τ f s o right state_good below).part) in
      let w = subst (IfDelivered (λ n t. (length (take n r.1.part) ≡ n) × CameByCut end σ socket (get_link s τ).link.id (record { number = t; octets = take n r.1.part }) (operations ++ (receiving f ∷ []))))
      (sym (ap (λ (p : Result Answer Refusal × Station). p.0) q) ∙ delivered.is) u.told in
      record {
        message = record { number = delivered.number; octets = take n r.1.part };
        valued = delivered.values-are ∙ ap (λ (k : ℕ). k ∷ delivered.number.0 ∷ []) (sym w.0);
        stands = rw (w.0, last);
        came = w.1;
      }

  delivery : Delivery end σ operations f values
  delivery = of (does end τ f)
    where
      of : Promise.Does end τ f (parsed f) (received end τ f) → Delivery end σ operations f values
      of (refuses a q) = let e : Err a ≡ Ok (A.Delivered n delivered.number) = sym (ap (λ (p : Result Answer Refusal × Station). p.0) q) ∙ delivered.is in let z : ◌≡◌ {A = ℕ} 0 1 = cc in absurd (omega arith)
      of (steps j right state_good below at q) =
          let p : j ≡ socket_place (socket_at j) = omega arith in
          record {
            socket = socket_at j;
            numbered = is-socket j (length σ.links) (rw (after-count end σ operations) at below);
            is_for = at ∙ ap Some p;
            only = delivers (socket_at j) right state_good (omega arith) (at ∙ ap Some p) (q ∙ ap (λ (i : ℕ). placed τ i (step_of end (get_link i τ) f (parsed f))) p);
          }

-- DEMAND 2, ONLY
pub only : Only
only end σ operations all f o values e = delivery end σ operations all f o values (delivered-told _ values e)
