-- Demand 2, back: the frames of a message's cut, in any order from a Start on and with any repeats, give the message back, whatever comes for other
-- links in between, and for this one that is neither a segment nor a Close.
use Prim.Native.Nat.{ℕ, zero, suc, ◌≤◌}
use Rattle.links.specs.declared.Answer.{Answer}
use Rattle.links.specs.declared.Refusal.{Refusal}
use Rattle.pb_adv.specs.declared.Frame.{Frame}
use Rattle.pb_adv.specs.declared.FrameRefusal.{FrameRefusal}
use Rattle.std.specs.Prelude.{Some, Result, Ok, Err}
use native.Mathlib.Omega.{arith}
use mathlib.Core.Bool.{Bool, true, false, ◌&&◌, false≢true}
use mathlib.Core.List.Memᴰ
use mathlib.Core.List.{List, [], ◌∷◌, ◌++◌, append-nil, Memᴰ}
use mathlib.Core.Logic.{◌≢◌, ◌⊎◌, inl, inr}
use mathlib.Core.Path.{◌≡◌, refl, sym, ap, ◌∙◌, subst}
use lib.Dec.{eqb}
use lib.ListN.{length, get_or, take}
use lib.Seq.{append_snoc}
use borrow.Author.Tests.{eqb-true, eqb-false, eq-eqb, ne_eqb}
use Rattle.octets.specs.Numbers.{Octets}
use Rattle.octets.proofs.Tests.{cases, both}
use Rattle.transactions.specs.Numbers.{is_socket, socket_place}
use Rattle.transactions.specs.Segments.{seg_n}
use Rattle.transactions.specs.declared.TransactionNumber.{TransactionNumber}
use Rattle.transactions.specs.declared.Socket.{Socket}
use Rattle.pb_adv.specs.Frame.{link_id, parsed}
use Rattle.pb_adv.specs.declared.Frame.TheVariants as P
use Rattle.pb_adv_writing.specs.Writing.{segment_frame, message_frames, SegmentAsked}
use Rattle.pb_adv_writing.proofs.Promises.{parsed-frame}
use Rattle.links.specs.Links.{End, side_of, sends, in_use, told}
use Rattle.links.specs.Good.{good}
use Rattle.links.specs.Segments.{OneLink}
use Rattle.links.specs.Station.{Station, no_link, get_link, acknowledgement_step, ack_step, frame_step, open_step, is_right, received, link_at, local_open, local_close}
use Rattle.links.specs.Interleaving.{keep_if, All}
use Rattle.links.specs.Operations.{Operation, receiving, opening, sending, closing, operate, after_all}
use Rattle.links.specs.Promises.{addressed, LocalCall}
use Rattle.links.specs.Demand3.{Message}
use Rattle.links.specs.Demand2.{is_other, Prepared, MayCome, CutComes, Back}
use Rattle.links.specs.declared.Side.{Side}
use Rattle.links.specs.declared.Side.TheVariants.{Provisioner, Device}
use Rattle.links.specs.declared.LinkState.{LinkState}
use Rattle.links.specs.declared.LinkState.TheVariants as S
use Rattle.links.specs.declared.Link.{Link}
use Rattle.links.specs.declared.Answer.TheVariants as A
use Rattle.links.proofs.Come.{since_start, push, complete, complete-nil, each-complete, since-start-snoc}
use Rattle.links.proofs.Deliver.{Inv, fresh, inv-same, answer_to, step-inv, inv-stands}
use Rattle.links.proofs.Lens.{right-sized, right-as, part-size}
use Rattle.links.proofs.Opens.{open-holds}
use Rattle.links.proofs.Right.{OpenAt, goes, same, stays}
use Rattle.links.proofs.Frames.{of_cut_lem, in_cut, index_at, index-at, found-id, frame-id, whose}
use Rattle.links.proofs.Sockets.{socket_at, place-below, socket-at}
use Rattle.links.proofs.Demand3.{delivery-in}
use Rattle.links.proofs.Local.{open-used, close-nowhere, open-count, send-count, close-count, send-after}
use Rattle.links.proofs.Promises.{step_of, by-step, stepped, received-at, receiving-keeps-count, receiving-keeps-right, receiving-keeps-good, local-calls}

-- ---- what operations bring to the link of a Link ID: the numbers of the segments, in their order

abbrev is_segment : Result Frame FrameRefusal → Bool
is_segment (Ok (P.Segment s)) = true
is_segment (Ok (P.Acknowledgement id t)) = false
is_segment (Ok (P.Open id uuid)) = false
is_segment (Ok (P.Ack id)) = false
is_segment (Ok (P.Close id reason)) = false
is_segment (Err r) = false

-- octets that are a segment with the Link ID
abbrev is_own : ℕ → List ℕ → Bool
is_own id f = is_segment (parsed f) && eqb (link_id f) id

abbrev brings : ℕ → List Operation → List ℕ
brings id [] = []
brings id (receiving f ∷ cs) = keep_if (is_own id f) (index_at f) (brings id cs)
brings id (opening socket i ∷ cs) = brings id cs
brings id (sending socket n ∷ cs) = brings id cs
brings id (closing socket ∷ cs) = brings id cs

brings-append : (id : ℕ) (a b : List Operation) → brings id (a ++ b) ≡ brings id a ++ brings id b
brings-append id [] b = refl
brings-append id (receiving f ∷ a) b =
    both (λ t. keep_if t (index_at f) (brings id (a ++ b)) ≡ keep_if t (index_at f) (brings id a) ++ brings id b) (is_own id f)
    (λ _. ap (λ (l : List ℕ). index_at f ∷ l) (brings-append id a b)) (λ _. brings-append id a b)
brings-append id (opening socket i ∷ a) b = brings-append id a b
brings-append id (sending socket n ∷ a) b = brings-append id a b
brings-append id (closing socket ∷ a) b = brings-append id a b

brings-more : (id : ℕ) (k : ℕ) (c : Operation) (cs : List Operation) → Memᴰ k (brings id cs) → Memᴰ k (brings id (c ∷ cs))
brings-more id k (receiving f) cs h = both (λ t. Memᴰ k (keep_if t (index_at f) (brings id cs))) (is_own id f) (λ _. Memᴰ.tail h) (λ _. h)
brings-more id k (opening socket i) cs h = h
brings-more id k (sending socket n) cs h = h
brings-more id k (closing socket) cs h = h

-- all at or after one Start are among those since the first
since-has : (k : ℕ) (a b : List ℕ) → Memᴰ k (0 ∷ b) → Memᴰ k (since_start (a ++ (0 ∷ b)))
since-has k [] b h = h
since-has k (zero ∷ a) b h = Memᴰ.tail (Memᴰ.append_right a h)
since-has k (suc j ∷ a) b h = since-has k a b h

-- ---- what leaves the receiving alone

record SameRecord (l m : Link) : Type 0 where
  state : m.state ≡ l.state
  id : m.id ≡ l.id
  last : m.last ≡ l.last
  half : m.half ≡ l.half

same-record : (l : Link) → SameRecord l l
same-record l = record { state = refl; id = refl; last = refl; half = refl }

record_same : {l m : Link} → m ≡ l → SameRecord l m
record_same {l} {m} e = rw e (same-record l)

record SameHalf (x y : OneLink) : Type 0 where
  state : y.link.state ≡ x.link.state
  id : y.link.id ≡ x.link.id
  last : y.link.last ≡ x.link.last
  half : y.link.half ≡ x.link.half
  part : y.part ≡ x.part

same_half : (x : OneLink) → SameHalf x x
same_half x = record { state = refl; id = refl; last = refl; half = refl; part = refl }

and-false : (b : Bool) → (b && false) ≡ false
and-false true = refl
and-false false = refl

-- on an open link, a frame that is neither a segment nor a Close leaves it
module _ (side : Side) (x : OneLink) (f : List ℕ) where
  ack-same : (side : Side) → SameHalf x (ack_step side x).1
  ack-same Provisioner = same_half x
  ack-same Device = same_half x

  other-same : (p : Result Frame FrameRefusal) → is_other p ≡ true → SameHalf x (frame_step side x S.Open f p).1
  unfolding frame_step acknowledgement_step
  other-same (Ok (P.Segment s)) e = absurd (false≢true e)
  other-same (Ok (P.Acknowledgement id t)) e =
      cases (sends side t)
      (λ q. rw q (cases (x.link.outstanding && eqb x.link.next.0 t.0)
      (λ v. rw v (record { state = refl; id = refl; last = refl; half = refl; part = refl })) (λ v. rw v (same_half x))))
      (λ q. rw q (same_half x))
  other-same (Ok (P.Open id uuid)) e = same_half x
  other-same (Ok (P.Ack id)) e = ack-same side
  other-same (Ok (P.Close id reason)) e = absurd (false≢true e)
  other-same (Err r) e = same_half x

-- and so does an Open that comes to a device
open-same : (own : List ℕ) (x : OneLink) (f : List ℕ) (id uuid : ℕ) → in_use x.link.state ≡ true → SameHalf x (open_step own x f id uuid).1
open-same own x f id uuid u = open-holds own x f id uuid (SameHalf x) (same_half x) (λ n. absurd (false≢true (sym n ∙ u)))

step_same : (end : End) (x : OneLink) (f : List ℕ) → x.link.state ≡ S.Open → (p : Result Frame FrameRefusal) → is_other p ≡ true → SameHalf x (step_of end x f p).1
step_same end x f opened p h =
    by-step (λ q. SameHalf x q.1) end x f p (λ own id uuid _ _. open-same own x f id uuid (rw opened))
    (subst (λ (state : LinkState). SameHalf x (frame_step (side_of end) x state f p).1) (sym opened) (other-same (side_of end) x f p h))

not-segment : (p : Result Frame FrameRefusal) → is_other p ≡ true → is_segment p ≡ false
not-segment (Ok (P.Segment s)) e = absurd (false≢true e)
not-segment (Ok (P.Acknowledgement id t)) e = refl
not-segment (Ok (P.Open id uuid)) e = refl
not-segment (Ok (P.Ack id)) e = refl
not-segment (Ok (P.Close id reason)) e = refl
not-segment (Err r) e = refl

module _ (end : End) (σ : Station) (socket : Socket) (m : Message) (P : Prepared end σ socket m) where
  -- its place
  abbrev s : ℕ
  s = socket_place socket

  abbrev id : ℕ
  id = (get_link s σ).link.id

  abbrev octets : List ℕ
  octets = m.octets

  abbrev last : ℕ
  last = seg_n (length m.octets)

  abbrev t : TransactionNumber
  t = m.number

  asked : (k : ℕ) → k ≤ last → SegmentAsked octets k
  asked k b = record { some-octets = P.ready.some-octets; few-octets = P.ready.few-octets; index = b }

  brings-frame : (k : ℕ) → k ≤ last → (cs : List Operation) → brings id (receiving (segment_frame id t octets k) ∷ cs) ≡ k ∷ brings id cs
  brings-frame k b cs = rw (ap is_segment (parsed-frame id t octets k (asked k b)), eq-eqb (link_id (segment_frame id t octets k)) id (frame-id id t octets k), index-at id t octets k)

  brings-each : (k : ℕ) → k ≤ last → (cs : List Operation) → Memᴰ (receiving (segment_frame id t octets k)) cs → Memᴰ k (brings id cs)
  brings-each k b [] x' = elim x' [ ]
  brings-each k b (c ∷ cs) (Memᴰ.head e) = subst (λ (o : Operation). Memᴰ k (brings id (o ∷ cs))) e (rw (brings-frame k b cs) (Memᴰ.head refl))
  brings-each k b (c ∷ cs) (Memᴰ.tail h) = brings-more id k c cs (brings-each k b cs h)

  all_come : (cs : List Operation) → CutComes end σ socket m cs → complete last (since_start (brings id cs)) ≡ true
  all_come cs h =
      rw (h.split, brings-append id h.before (receiving (segment_frame id t octets 0) ∷ h.since), brings-frame 0 (omega arith) h.since)
      (each-complete last _ (λ k b. since-has k (brings id h.before) (brings id h.since)
      (rw (brings-frame 0 (omega arith) h.since) at (brings-each k b (receiving (segment_frame id t octets 0) ∷ h.since) (h.cut _ (in_cut id t octets (suc last) k (omega arith)))))))

  -- ---- the link all along, when the segments l have come since the first Start
  record Going (l : List ℕ) (τ : Station) : Type 0 where
    at : OpenAt end τ s id
    inv : Inv octets t l (get_link s τ)

  -- an operation brings a segment, or leaves the link alone
  data Turn (l : List ℕ) (τ : Station) (c : Operation) : Type 0 where
    own : (f : List ℕ) → Memᴰ f (message_frames id t octets) → c ≡ receiving f → (k : ℕ) → ((cs : List Operation) → brings id (c ∷ cs) ≡ k ∷ brings id cs) → (received end τ f).0 ≡ answer_to octets t l k
        → Going (push l k) (operate end τ c).1 → Turn l τ c
    other : ((cs : List Operation) → brings id (c ∷ cs) ≡ brings id cs) → Going l (operate end τ c).1 → Turn l τ c

  module _ (l : List ℕ) (τ : Station) (g : Going l τ) where
    alone : (τ' : Station) → is_right end τ' ≡ true → length τ'.links ≡ length τ.links → good (side_of end) τ'.links ≡ true → SameHalf (get_link s τ) (get_link s τ') → Going l τ'
    alone τ' right n not_bad e = record {
      at = record { right = right; not_bad = not_bad; below = rw n g.at.below; is_open = e.state ∙ g.at.is_open; has_id = e.id ∙ g.at.has_id };
      inv = inv-same octets t l (get_link s τ) (get_link s τ') e.last e.half e.part g.inv;
    }

    takes : (f : List ℕ) → Memᴰ f (message_frames id t octets) → (k : ℕ) → k ≤ last → f ≡ segment_frame id t octets k → Turn l τ (receiving f)
    takes f of_cut k b e =
        let w = step-inv octets t P.ready.some-octets l (get_link s τ) k b g.inv in
        own f of_cut refl k (subst (λ (h : List ℕ). (cs : List Operation) → brings id (receiving h ∷ cs) ≡ k ∷ brings id cs) (sym e) (brings-frame k b))
        (ap (λ (r : Result Answer Refusal × Station). r.0) (goes end τ s id g.at t octets k (asked k b) P.ready.number f e) ∙ w.0)
        (record {
          at = stays end τ s id g.at t octets k (asked k b) P.ready.number f e;
          inv = rw (same end τ s id g.at t octets k (asked k b) P.ready.number f e) w.1;
        })

    -- octets that are no segment of this link
    passes : (f : List ℕ) → Octets f → is_own id f ≡ false → ((at : addressed end τ.links (parsed f) ≡ Some s) → SameHalf (get_link s τ) (stepped end τ f s)) → Turn l τ (receiving f)
    passes f o h k =
        other (λ cs. rw h)
        (alone _ (receiving-keeps-right end τ f o g.at.right) (receiving-keeps-count end τ f) (receiving-keeps-good end τ f o g.at.not_bad)
        (received-at end τ f o s (SameHalf (get_link s τ)) (same_half (get_link s τ)) (λ _ _ _ at _. k at)))

    -- neither a segment nor a Close
    others : (f : List ℕ) → Octets f → is_other (parsed f) ≡ true → Turn l τ (receiving f)
    others f o h = passes f o (rw (not-segment (parsed f) h)) (λ at. step_same end (get_link s τ) f g.at.is_open (parsed f) h)

    other-link : (f : List ℕ) → Octets f → link_id f ≢ id → Turn l τ (receiving f)
    other-link f o h =
        cases (is_other (parsed f)) (others f o)
        (λ e. passes f o (rw (ne_eqb (link_id f) id h) (and-false (is_segment (parsed f))))
        (λ at. absurd (h (found-id τ s (link_id f) (whose end τ.links f s e at) ∙ g.at.has_id))))

    local : (ls : List Link) → length ls ≡ length τ.links → good (side_of end) ls ≡ true → SameRecord (get_or τ.links s no_link) (get_or ls s no_link)
        → Going l (record { links = ls; area = τ.area })
    unfolding get_link
    local ls n h e = alone _ (right-as end τ _ n refl g.at.right) n h (record { state = e.state; id = e.id; last = e.last; half = e.half; part = refl })

    -- a local Open of this socket is refused, and so is a Close of a socket that has its place and isn't this one
    opening-same : (w : Socket) (i : ℕ) → (s ≢ socket_place w → get_or (local_open (side_of end) τ.links w i).1 s no_link ≡ get_or τ.links s no_link)
        → get_or (local_open (side_of end) τ.links w i).1 s no_link ≡ get_or τ.links s no_link
    unfolding get_link
    opening-same w i elsewhere =
        cases (eqb s (socket_place w))
        (λ e. let q : s ≡ socket_place w = eqb-true s (socket_place w) e in
        let u : in_use (link_at τ.links w).state ≡ true = rw (← q, g.at.is_open) in
        rw (open-used (side_of end) τ.links w i u))
        (λ e. elsewhere (eqb-false s (socket_place w) e))

    closing_same : (w : Socket) → socket ≢ w → (s ≢ socket_place w → get_or (local_close (side_of end) τ.links w).1 s no_link ≡ get_or τ.links s no_link)
        → get_or (local_close (side_of end) τ.links w).1 s no_link ≡ get_or τ.links s no_link
    closing_same w d elsewhere =
        cases (eqb s (socket_place w))
        (λ e. let q : s ≡ socket_place w = eqb-true s (socket_place w) e in
        cases (is_socket w (length τ.links))
        (λ b. absurd (d (sym (socket-at socket (length σ.links) P.socket) ∙ ap socket_at q ∙ socket-at w (length τ.links) b)))
        (λ b. rw (close-nowhere (side_of end) τ.links w b)))
        (λ e. elsewhere (eqb-false s (socket_place w) e))

    turn : (c : Operation) → MayCome end σ socket m c → Turn l τ c
    turn (receiving f) (inl h) = let r = of_cut_lem id t octets (suc last) f h in takes f h r.index (omega (arith, r.below)) r.is
    turn (receiving f) (inr h) = of h.0
      where
        of : (link_id f ≢ id) ⊎ (is_other (parsed f) ≡ true) → Turn l τ (receiving f)
        of (inl e) = other-link f h.1 e
        of (inr e) = others f h.1 e
    turn (opening w i) h =
        let u : LocalCall (side_of end) w (λ ls. local_open (side_of end) ls w i) = rw h (local-calls.opening w i) in
        other (λ cs. refl) (local _ (open-count (side_of end) τ.links w i) (u.keeps-good τ.links g.at.not_bad) (record_same (opening-same w i (u.leaves-others τ.links s))))
    turn (sending w n) h =
        let u = local-calls.sending (side_of end) w n in
        other (λ cs. refl) (local _ (send-count (side_of end) τ.links w n) (u.keeps-good τ.links g.at.not_bad)
        (send-after SameRecord same-record (side_of end) τ.links w s n (λ l. record { state = refl; id = refl; last = refl; half = refl })))
    turn (closing w) h =
        let u = local-calls.closing (side_of end) w in
        other (λ cs. refl) (local _ (close-count (side_of end) τ.links w) (u.keeps-good τ.links g.at.not_bad) (record_same (closing_same w h (u.leaves-others τ.links s))))

  -- ---- to the end

  goes_on : (a : List ℕ) (cs : List Operation) (τ : Station) → All (MayCome end σ socket m) cs → Going (since_start a) τ → Going (since_start (a ++ brings id cs)) (after_all end τ cs)
  goes_on a [] τ h g = rw (append-nil a) g
  goes_on a (c ∷ cs) τ h g = of (turn (since_start a) τ g c h.0) (λ b. goes_on b cs (operate end τ c).1 h.1)
    where
      of : Turn (since_start a) τ c → ((b : List ℕ) → Going (since_start b) (operate end τ c).1 → Going (since_start (b ++ brings id cs)) (after_all end (operate end τ c).1 cs))
          → Going (since_start (a ++ brings id (c ∷ cs))) (after_all end (operate end τ c).1 cs)
      of (own f _ e k b _ n) r = rw (b cs, ← (append_snoc a k (brings id cs))) (r (a ++ (k ∷ [])) (rw (since-start-snoc a k) n))
      of (other b n) r = rw (b cs) (r a n)

  -- the operation that delivers
  record Delivers (τ : Station) (cs : List Operation) : Type 0 where
    before : List Operation
    frame : List ℕ
    rest : List Operation
    split : cs ≡ before ++ (receiving frame ∷ rest)
    of_cut : Memᴰ frame (message_frames id t octets)
    delivered : (received end (after_all end τ before) frame).0 ≡ Ok (A.Delivered (length octets) t)

  -- one operation before
  earlier : (τ : Station) (c : Operation) (cs : List Operation) → Delivers (operate end τ c).1 cs → Delivers τ (c ∷ cs)
  earlier τ c cs d = record { before = c ∷ d.before; frame = d.frame; rest = d.rest; split = ap (λ (l : List Operation). c ∷ l) d.split; of_cut = d.of_cut; delivered = d.delivered }

  delivers : (a : List ℕ) (cs : List Operation) (τ : Station) → All (MayCome end σ socket m) cs → Going (since_start a) τ
      → complete last (since_start a) ≡ false → complete last (since_start (a ++ brings id cs)) ≡ true → Delivers τ cs
  delivers a [] τ h g n w = absurd (false≢true (sym n ∙ rw (append-nil a) at w))
  delivers a (c ∷ cs) τ h g n w = of (turn (since_start a) τ g c h.0) (λ b. delivers b cs (operate end τ c).1 h.1)
    where
      of : Turn (since_start a) τ c → ((b : List ℕ) → Going (since_start b) (operate end τ c).1 → complete last (since_start b) ≡ false
          → complete last (since_start (b ++ brings id cs)) ≡ true → Delivers (operate end τ c).1 cs) → Delivers τ (c ∷ cs)
      of (own f of_cut e k b u v) r =
          cases (complete last (since_start (a ++ (k ∷ []))))
          (λ z. record { before = []; frame = f; rest = cs; split = ap (λ (o : Operation). o ∷ cs) e; of_cut = of_cut; delivered = u ∙ delivery-in octets t a k z n })
          (λ z. earlier τ c cs (r (a ++ (k ∷ [])) (rw (since-start-snoc a k) v) z (rw (append_snoc a k (brings id cs), ← (b cs)) w)))
      of (other b v) r = earlier τ c cs (r a v n (rw (← (b cs)) w))

  starts : Going [] σ
  starts = record {
    at = record { right = P.right; not_bad = P.not_bad; below = place-below socket (length σ.links) P.socket; is_open = P.ready.is_open; has_id = refl };
    inv = fresh refl P.ready.awaited P.ready.nothing (omega (arith, part-size (length σ.links) σ refl (right-sized end σ P.right) s (place-below socket (length σ.links) P.socket), P.ready.few-octets));
  }

  stood : (cs : List Operation) → All (MayCome end σ socket m) cs → complete last (since_start (brings id cs)) ≡ true → take (length octets) (get_link s (after_all end σ cs)).part ≡ octets
  stood cs h c = inv-stands octets t P.ready.some-octets (since_start (brings id cs)) (get_link s (after_all end σ cs)) c (goes_on [] cs σ h starts).inv

-- DEMAND 2, BACK
pub back : Back received
back end σ s m P cs h comes =
    let w = all_come end σ s m P cs comes in
    let d = delivers end σ s m P [] cs σ h (starts end σ s m P) (complete-nil (seg_n (length m.octets))) w in
    record { before = d.before; frame = d.frame; rest = d.rest; split = d.split; of_cut = d.of_cut; delivered = ap told d.delivered; stands = stood end σ s m P cs h w }
