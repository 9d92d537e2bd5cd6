-- Demand 3: any number of open links, one message each, any mixture of right segments.
use Prim.Native.Nat.{ℕ, ◌+◌, ◌*◌, ◌-◌, ◌≤◌, ◌<◌}
use Rattle.links.specs.declared.Answer.{Answer}
use Rattle.links.specs.declared.Refusal.{Refusal}
use Rattle.std.specs.Prelude.{Some, None, Result, Ok, Err}
use native.Mathlib.Omega.{arith}
use mathlib.Core.Bool.{Bool, true, false, cond, false≢true}
use mathlib.Core.List.Memᴰ
use mathlib.Core.List.{List, [], ◌∷◌, ◌++◌, map, append_assoc, map-map, map-append, Memᴰ}
use mathlib.Core.Logic.{◌≢◌, ◌⊎◌, inl, inr}
use mathlib.Core.Path.{◌≡◌, refl, sym, ap, ◌∙◌, subst}
use lib.Dec.{eqb}
use lib.ListN.{length, get_or, take}
use borrow.Author.Tests.{eqb-true, eqb-false, eq-eqb}
use Rattle.octets.specs.Told.{answered}
use Rattle.octets.proofs.Tests.{cases, both}
use Rattle.transactions.specs.Numbers.{is_socket, socket_place}
use Rattle.transactions.specs.Segments.{seg_n, segment}
use Rattle.transactions.specs.declared.TransactionNumber.{TransactionNumber}
use Rattle.transactions.specs.declared.Socket.{Socket}
use Rattle.pb_adv_writing.specs.Writing.{header_of, segment_frame, message_frames, SegmentAsked}
use Rattle.links.specs.Links.{End, side_of, Awaits, find, told}
use Rattle.links.specs.Good.{good}
use Rattle.links.specs.Segments.{OneLink, segment_step}
use Rattle.links.specs.Station.{Station, no_link, get_link, put_link, of_socket, received}
use Rattle.links.specs.Interleaving.{keep_if, with_key, All, state_after}
use Rattle.links.specs.Demand3.{Message, Call, call_place, frames_for, Ready, cut_at, link_of, Premises, Right, AllCome, First, delivery, called, after, answer, Claim, Demand3}
use Rattle.links.specs.declared.LinkState.TheVariants as S
use Rattle.links.specs.declared.Refusal.TheVariants as R
use Rattle.links.specs.declared.Answer.TheVariants as A
use Rattle.links.proofs.Interleaving.{with-key-append, Parts, after-ok, part-after-calls, mixture}
use Rattle.links.proofs.Come.{since_start, Each, has, complete, push, since-start-snoc, has-again, complete-cong, each-complete, complete-each, complete-later, push-has}
use Rattle.links.proofs.Deliver.{answer_to, one_answer, one-stands}
use Rattle.links.proofs.Lens.{right-sized, right-as, part-size, station-ext}
use Rattle.links.proofs.Frames.{of_cut_lem, index_at, index-at, come-out, come-in}
use Rattle.links.proofs.Right.{OpenAt, found, goes, same, other, count, stays}
use Rattle.links.proofs.Answers.{delivered-told}
use Rattle.links.proofs.Sockets.{socket_at, place-below, socket-at, is-socket}

-- ---- the premises and the calls, by places

module _ (end : End) (σ₀ : Station) (message : Socket → Message) (P : Premises σ₀ message end) where
  abbrev message_at : ℕ → Message
  message_at s = message (socket_at s)

  abbrev octets_at : ℕ → List ℕ
  octets_at s = (message_at s).octets

  abbrev id_at : ℕ → ℕ
  id_at s = (get_or σ₀.links s no_link).id

  ready_at : (s : ℕ) → s < length σ₀.links → Ready (side_of end) (get_or σ₀.links s no_link) (message_at s)
  ready_at s b =
      let q : s + 1 - 1 ≡ s = omega arith in
      rw q at (P.ready (socket_at s) (is-socket s (length σ₀.links) b))

  record RightAt (c : Call) : Type 0 where
    place : call_place c < length σ₀.links
    index : index_at c.frame ≤ seg_n (length (octets_at (call_place c)))
    frame : c.frame ≡ segment_frame (id_at (call_place c)) (message_at (call_place c)).number (octets_at (call_place c)) (index_at c.frame)

  message-at : (s : Socket) → is_socket s (length σ₀.links) ≡ true → message_at (socket_place s) ≡ message s
  message-at s e = ap message (socket-at s (length σ₀.links) e)

  right-at : (c : Call) → Right σ₀ message c → RightAt c
  right-at c r =
      let s = call_place c in
      let own = subst (λ (m : Message). Memᴰ c.frame (message_frames (id_at s) m.number m.octets)) (sym (message-at c.socket r.socket)) r.segment in
      let w = of_cut_lem (id_at s) (message_at s).number (octets_at s) _ c.frame own in
      let i : index_at c.frame ≡ w.index = ap index_at w.is ∙ index-at (id_at s) (message_at s).number (octets_at s) w.index in
      record {
        place = place-below c.socket (length σ₀.links) r.socket;
        index = omega (arith, i, w.below);
        frame = w.is ∙ ap (segment_frame (id_at s) (message_at s).number (octets_at s)) (sym i);
      }

  all-at : (cs : List Call) → All (Right σ₀ message) cs → All RightAt cs
  all-at [] r = tt
  all-at (c ∷ cs) r = (right-at c r.0, all-at cs r.1)

  -- ---- a right call is a step of its own link

  -- what holds of the station all along
  record Sound (σ : Station) : Type 0 where
    count : length σ.links ≡ length σ₀.links
    room : length σ.area ≡ 1469 * length σ₀.links
    not_bad : good (side_of end) σ.links ≡ true
    is_open : (s : ℕ) → s < length σ₀.links → (get_link s σ).link.state ≡ S.Open
    ids : (s : ℕ) → s < length σ₀.links → (get_link s σ).link.id ≡ id_at s

  -- segment k of the message of place s, at its link
  abbrev one_segment : ℕ → OneLink → ℕ → Result Answer Refusal × OneLink
  one_segment s x k = segment_step x (message_at s).number (header_of (octets_at s) k) (segment (octets_at s) k)

  -- a call at its link
  abbrev at_link : OneLink → Call → Result Answer Refusal × OneLink
  at_link x c = one_segment (call_place c) x (index_at c.frame)

  abbrev step : Station → Call → Result Answer Refusal × Station
  step = called σ₀ message (received end)

  open_at : (σ : Station) → Sound σ → (s : ℕ) → s < length σ₀.links → OpenAt end σ s (id_at s)
  open_at σ o s b = record {
    right = right-as end σ₀ σ o.count (o.room ∙ sym (right-sized end σ₀ P.right)) P.right;
    not_bad = o.not_bad;
    below = omega (arith, o.count);
    is_open = o.is_open s b;
    has_id = o.ids s b;
  }

  module _ (σ : Station) (c : Call) (o : Sound σ) (r : RightAt c) where
    abbrev place : ℕ
    place = call_place c

    abbrev open-here : OpenAt end σ place (id_at place)
    open-here = open_at σ o place r.place

    ready-here : Ready (side_of end) (get_or σ₀.links place no_link) (message_at place)
    ready-here = ready_at place r.place

    asked : SegmentAsked (octets_at place) (index_at c.frame)
    asked = record { some-octets = ready-here.some-octets; few-octets = ready-here.few-octets; index = r.index }

    goes_at : step σ c ≡ ((at_link (get_link place σ) c).0, put_link place (at_link (get_link place σ) c).1 σ)
    goes_at = goes end σ place _ open-here (message_at place).number (octets_at place) (index_at c.frame) asked ready-here.number c.frame r.frame

    next-same : get_link place (step σ c).1 ≡ (at_link (get_link place σ) c).1
    next-same = same end σ place _ open-here (message_at place).number (octets_at place) (index_at c.frame) asked ready-here.number c.frame r.frame

    next-other : (j : ℕ) → place ≢ j → get_link j (step σ c).1 ≡ get_link j σ
    next-other = other end σ place _ open-here (message_at place).number (octets_at place) (index_at c.frame) asked ready-here.number c.frame r.frame

    next-ok : Sound (step σ c).1
    next-ok =
        let z = stays end σ place _ open-here (message_at place).number (octets_at place) (index_at c.frame) asked ready-here.number c.frame r.frame in
        let n = count end σ place _ open-here (message_at place).number (octets_at place) (index_at c.frame) asked ready-here.number c.frame r.frame ∙ o.count in
        record {
          count = n;
          room = right-sized end _ z.right ∙ ap (λ (l : ℕ). 1469 * l) n;
          not_bad = z.not_bad;
          is_open = λ j b. cases (eqb place j)
              (λ e. rw (← (eqb-true place j e)) z.is_open) (λ e. rw (next-other j (eqb-false place j e)) (o.is_open j b));
          ids = λ j b. cases (eqb place j)
              (λ e. rw (← (eqb-true place j e)) z.has_id) (λ e. rw (next-other j (eqb-false place j e)) (o.ids j b));
        }

  parts : Parts call_place step (length σ₀.links) get_link at_link Sound RightAt
  parts = record {
    below = λ c r. r.place;
    ok = next-ok;
    answer = λ σ c o r. ap (λ (p : Result Answer Refusal × Station). p.0) (goes_at σ c o r);
    same = next-same;
    other = λ σ c j o r h. next-other σ c o r j h;
    ext = λ σ τ o p h. station-ext (length σ₀.links) σ τ o.count o.room p.count p.room h;
  }

  starts : Sound σ₀
  unfolding get_link
  starts = record { count = refl; room = right-sized end σ₀ P.right; not_bad = P.not_bad; is_open = λ s b. (ready_at s b).is_open; ids = λ s b. refl }

  ok-after : (cs : List Call) → All RightAt cs → Sound (state_after step σ₀ cs)
  ok-after cs r = after-ok call_place step (length σ₀.links) get_link at_link Sound RightAt parts σ₀ cs starts r

  -- after any right calls, a link's Link ID still finds its socket
  pub found_after : (cs : List Call) → All (Right σ₀ message) cs → (s : Socket) → is_socket s (length σ₀.links) ≡ true
      → find (after σ₀ message (received end) cs).links (link_of σ₀ message s).id ≡ Some (socket_place s)
  found_after cs r s b = found end _ (socket_place s) _ (open_at _ (ok-after cs (all-at cs r)) (socket_place s) (place-below s (length σ₀.links) b))

  -- ---- a link's own calls, as the numbers of their segments

  abbrev segments_at : ℕ → List Call → List ℕ
  segments_at s cs = map (λ c. index_at c.frame) (with_key call_place s cs)

  abbrev last_at : ℕ → ℕ
  last_at s = seg_n (length (octets_at s))

  own : (s : ℕ) (cs : List Call) (x : OneLink) → state_after at_link x (with_key call_place s cs) ≡ state_after (one_segment s) x (segments_at s cs)
  own s [] x = refl
  own s (c ∷ cs) x =
      both (λ t. state_after at_link x (keep_if t c (with_key call_place s cs)) ≡ state_after (one_segment s) x (map (λ c. index_at c.frame) (keep_if t c (with_key call_place s cs)))) (eqb (call_place c) s)
      (λ e. ap (λ (i : ℕ). state_after at_link (one_segment i x (index_at c.frame)).1 (with_key call_place s cs)) (eqb-true (call_place c) s e)
      ∙ own s cs (one_segment s x (index_at c.frame)).1)
      (λ e. own s cs x)

  own-right : (s : ℕ) (cs : List Call) → All RightAt cs → All (λ k. k ≤ last_at s) (segments_at s cs)
  own-right s [] r = tt
  own-right s (c ∷ cs) r =
      both (λ t. All (λ k. k ≤ last_at s) (map (λ c. index_at c.frame) (keep_if t c (with_key call_place s cs)))) (eqb (call_place c) s)
      (λ e. (rw (eqb-true (call_place c) s e) at r.0.index, own-right s cs r.1)) (λ e. own-right s cs r.1)

  -- the link of place s after any calls
  link-after : (s : ℕ) (cs : List Call) → All RightAt cs → get_link s (state_after step σ₀ cs) ≡ state_after (one_segment s) (get_link s σ₀) (segments_at s cs)
  link-after s cs r = part-after-calls call_place step (length σ₀.links) get_link at_link Sound RightAt parts s σ₀ cs starts r ∙ own s cs (get_link s σ₀)

  module _ (s : ℕ) (b : s < length σ₀.links) where
    awaits : Awaits (get_link s σ₀).link.last (message_at s).number
    unfolding get_link
    awaits = (ready_at s b).awaited

    nothing : (get_link s σ₀).link.half ≡ None
    unfolding get_link
    nothing = (ready_at s b).nothing

    roomy : length (octets_at s) ≤ length (get_link s σ₀).part
    roomy = omega (arith, part-size (length σ₀.links) σ₀ refl (right-sized end σ₀ P.right) s b, (ready_at s b).few-octets)

  -- EVERY ANSWER
  every-answer : (pre : List Call) (c : Call) → All RightAt pre → RightAt c
      → (step (state_after step σ₀ pre) c).0 ≡ answer_to (octets_at (call_place c)) (message_at (call_place c)).number (since_start (segments_at (call_place c) pre)) (index_at c.frame)
  every-answer pre c rp r =
      let s = call_place c in
      parts.answer (state_after step σ₀ pre) c (ok-after pre rp) r
      ∙ rw (link-after s pre rp)
      (one_answer (octets_at s) (message_at s).number (ready_at s r.place).some-octets (get_link s σ₀) (awaits s r.place) (nothing s r.place) (roomy s r.place)
      (segments_at s pre) (own-right s pre rp) (index_at c.frame) r.index)

  -- WHAT STANDS once each segment has come
  octets-stand : (cs : List Call) → All RightAt cs → (s : ℕ) → s < length σ₀.links → complete (last_at s) (since_start (segments_at s cs)) ≡ true
      → take (length (octets_at s)) (get_link s (state_after step σ₀ cs)).part ≡ octets_at s
  octets-stand cs r s b e =
      rw (link-after s cs r)
      (one-stands (octets_at s) (message_at s).number (ready_at s b).some-octets (get_link s σ₀) (awaits s b) (nothing s b) (roomy s b) (segments_at s cs) (own-right s cs r) e)

  -- ---- what has come, as frames and by number

  among-right : (s : Socket) → is_socket s (length σ₀.links) ≡ true → (cs : List Call) → All (Right σ₀ message) cs
      → (f : List ℕ) → Memᴰ f (frames_for s cs) → Memᴰ f (cut_at (link_of σ₀ message s) (message s))
  among-right s b [] r f = λ h. absurd (Memᴰ.not-nil h)
  among-right s b (c ∷ cs) r f =
      both (λ t. Memᴰ f (map (λ c. c.frame) (keep_if t c (with_key call_place (socket_place s) cs))) → Memᴰ f (cut_at (link_of σ₀ message s) (message s))) (eqb (call_place c) (socket_place s))
      (λ e h. of e (among-right s b cs r.1 f) (Memᴰ.cases_cons h)) (λ e h. among-right s b cs r.1 f h)
    where
      same-socket : eqb (call_place c) (socket_place s) ≡ true → c.socket ≡ s
      same-socket e = sym (socket-at c.socket _ r.0.socket) ∙ ap socket_at (eqb-true (call_place c) (socket_place s) e) ∙ socket-at s _ b

      of : eqb (call_place c) (socket_place s) ≡ true → (Memᴰ f (frames_for s cs) → Memᴰ f (cut_at (link_of σ₀ message s) (message s)))
          → (f ≡ c.frame) ⊎ Memᴰ f (frames_for s cs) → Memᴰ f (cut_at (link_of σ₀ message s) (message s))
      of e more (inl q) = Memᴰ.cast q (subst (λ (z : Socket). Memᴰ c.frame (cut_at (link_of σ₀ message z) (message z))) (same-socket e) r.0.segment)
      of e more (inr h) = more h

  module _ (s : Socket) (b : is_socket s (length σ₀.links) ≡ true) where
    same-message : message s ≡ message_at (socket_place s)
    same-message = sym (message-at s b)

    index-frames : (cs : List Call) → map index_at (frames_for s cs) ≡ segments_at (socket_place s) cs
    index-frames cs = map-map index_at (λ c. c.frame) (with_key call_place (socket_place s) cs)

    all_come : (cs : List Call) → AllCome σ₀ message s cs → complete (last_at (socket_place s)) (since_start (segments_at (socket_place s) cs)) ≡ true
    all_come cs h =
        each-complete (last_at (socket_place s)) _ (subst (λ (l : List ℕ). Each (last_at (socket_place s)) (since_start l)) (index-frames cs)
        (subst (λ (m : Message). Each (seg_n (length m.octets)) (since_start (map index_at (frames_for s cs)))) same-message
        (come-out _ (message s).number (message s).octets (frames_for s cs) h)))

    come-all : (cs : List Call) → All (Right σ₀ message) cs → complete (last_at (socket_place s)) (since_start (segments_at (socket_place s) cs)) ≡ true → AllCome σ₀ message s cs
    come-all cs r e =
        come-in _ (message s).number (message s).octets (frames_for s cs) (among-right s b cs r)
        (subst (λ (m : Message). Each (seg_n (length m.octets)) (since_start (map index_at (frames_for s cs)))) (message-at s b)
        (subst (λ (l : List ℕ). Each (last_at (socket_place s)) (since_start l)) (sym (index-frames cs)) (complete-each (last_at (socket_place s)) _ e)))

    not-come : (cs : List Call) → All (Right σ₀ message) cs → (AllCome σ₀ message s cs → ⊥) → complete (last_at (socket_place s)) (since_start (segments_at (socket_place s) cs)) ≡ false
    not-come cs r h = cases (complete (last_at (socket_place s)) (since_start (segments_at (socket_place s) cs))) (λ e. absurd (h (come-all cs r e))) (λ e. e)

-- ---- when the answer is a delivery

four : (p q r w : Bool) (n : ℕ) (t : TransactionNumber) (a : ℕ) (b : TransactionNumber)
    → cond p (Ok A.AcknowledgeAgain) (cond q (Ok A.Repeat) (cond r (Ok (A.Delivered n t)) (cond w (Ok A.Kept) (Err R.NotBegun)))) ≡ Ok (A.Delivered a b) → (r ≡ true) × (p ≡ false)
four true q r w n t a b e = (cc, cc)
four false true r w n t a b e = (cc, cc)
four false false true w n t a b e = (refl, refl)
four false false false true n t a b e = (cc, cc)
four false false false false n t a b e = (cc, cc)

module _ (m : List ℕ) (t : TransactionNumber) (pre : List ℕ) (k : ℕ) where
  delivery-out : (n : ℕ) (u : TransactionNumber) → answer_to m t (since_start pre) k ≡ Ok (A.Delivered n u)
      → (complete (seg_n (length m)) (since_start (pre ++ (k ∷ []))) ≡ true) × (complete (seg_n (length m)) (since_start pre) ≡ false)
  delivery-out n u e =
      let f = four (complete (seg_n (length m)) (since_start pre)) (has k (since_start pre)) (complete (seg_n (length m)) (push (since_start pre) k)) (has k (push (since_start pre) k)) (length m) t n u e in
      (rw (since-start-snoc pre k) f.0, f.1)

  pub delivery-in : complete (seg_n (length m)) (since_start (pre ++ (k ∷ []))) ≡ true → complete (seg_n (length m)) (since_start pre) ≡ false
      → answer_to m t (since_start pre) k ≡ Ok (A.Delivered (length m) t)
  delivery-in c nc =
      let c' = rw (since-start-snoc pre k) at c in
      cases (has k (since_start pre))
      (λ h. absurd (false≢true
      (sym nc ∙ sym (complete-cong (seg_n (length m)) (since_start pre ++ (k ∷ [])) (since_start pre) (has-again k (since_start pre) h)) ∙ rw (← (push-has k (since_start pre) h)) c')))
      (λ h. rw (nc, h, c'))

-- ---- lists of calls

pub all_split : (P : Call → Type 0) (a : List Call) (c : Call) (b : List Call) → All P (a ++ (c ∷ b)) → All P a × P c × All P b
all_split P [] c b h = (tt, h.0, h.1)
all_split P (x ∷ a) c b h = let r = all_split P a c b h.1 in ((h.0, r.0), r.1, r.2)

all-front : (P : Call → Type 0) (a b : List Call) → All P (a ++ b) → All P a
all-front P [] b h = tt
all-front P (x ∷ a) b h = (h.0, all-front P a b h.1)

-- ---- the claim

module _ (end : End) (σ : Station) (message : Socket → Message) (P : Premises σ message end) where
  abbrev segments : ℕ → List Call → List ℕ
  segments s cs = segments_at end σ message P s cs

  abbrev last_of : ℕ → ℕ
  last_of s = last_at end σ message P s

  segments-append : (s : ℕ) (a b : List Call) → segments s (a ++ b) ≡ segments s a ++ segments s b
  segments-append s a b =
      ap (map (λ (c : Call). index_at c.frame)) (with-key-append call_place s a b) ∙ map-append (λ (c : Call). index_at c.frame) (with_key call_place s a) (with_key call_place s b)

  segments-snoc : (a : List Call) (c : Call) → segments (call_place c) (a ++ (c ∷ [])) ≡ segments (call_place c) a ++ (index_at c.frame ∷ [])
  segments-snoc a c = segments-append (call_place c) a (c ∷ []) ∙ rw (eq-eqb (call_place c) (call_place c) refl)

  -- what has all come has all come later too
  come-later : (s : Socket) → is_socket s (length σ.links) ≡ true → (pre : List Call) (c : Call) (more : List Call) → AllCome σ message s (pre ++ (c ∷ []))
      → complete (last_of (socket_place s)) (since_start (segments (socket_place s) (pre ++ (c ∷ more)))) ≡ true
  come-later s b pre c more h =
      rw (← (append_assoc pre (c ∷ []) more), segments-append (socket_place s) (pre ++ (c ∷ [])) more)
      (complete-later (last_of (socket_place s)) (segments (socket_place s) (pre ++ (c ∷ []))) (segments (socket_place s) more) (all_come end σ message P s b (pre ++ (c ∷ [])) h))

  module _ (pre : List Call) (c : Call) (post : List Call) (r : All (Right σ message) (pre ++ (c ∷ post))) where
    right-here : All (Right σ message) pre × Right σ message c × All (Right σ message) post
    right-here = all_split _ pre c post r

    right-next : All (Right σ message) (pre ++ (c ∷ []))
    right-next = all-front (Right σ message) (pre ++ (c ∷ [])) post (rw (append_assoc pre (c ∷ []) post) r)

    is_one : is_socket c.socket (length σ.links) ≡ true
    is_one = right-here.1.socket

    -- the message by its place
    abbrev m : Message
    m = message_at end σ message P (call_place c)

    answers-here : (called σ message (received end) (after σ message (received end) pre) c).0 ≡ answer_to m.octets m.number (since_start (segments (call_place c) pre)) (index_at c.frame)
    answers-here = every-answer end σ message P pre c (all-at end σ message P pre right-here.0) (right-at end σ message P c right-here.1)

    due-here : First σ message pre c → answer σ message (received end) pre c ≡ delivery σ message c.socket
    due-here f =
        ap told (answers-here
        ∙ delivery-in m.octets m.number (segments (call_place c) pre) (index_at c.frame)
        (rw (segments-snoc pre c) at (all_come end σ message P c.socket is_one (pre ++ (c ∷ [])) f.0))
        (not-come end σ message P c.socket is_one pre right-here.0 f.1))
        ∙ ap (λ (m : Message). answered "delivered" (length m.octets ∷ m.number.0 ∷ [])) (message-at end σ message P c.socket is_one)

    only_here : (values : List ℕ) → answer σ message (received end) pre c ≡ answered "delivered" values → First σ message pre c
    only_here values e =
        let d = delivered-told _ values e in
        let w = delivery-out m.octets m.number (segments (call_place c) pre) (index_at c.frame) d.long d.number (sym answers-here ∙ d.is) in (
          come-all end σ message P c.socket is_one (pre ++ (c ∷ [])) right-next (rw (segments-snoc pre c) w.0),
          λ h. false≢true (sym w.1 ∙ all_come end σ message P c.socket is_one pre h),
        )

  stand-here : (pre : List Call) (c : Call) (more post : List Call) → All (Right σ message) (pre ++ (c ∷ (more ++ post))) → First σ message pre c
      → take (length (message c.socket).octets) (of_socket c.socket (after σ message (received end) (pre ++ (c ∷ more)))).part ≡ (message c.socket).octets
  stand-here pre c more post r f =
      let b = (right-here pre c (more ++ post) r).1.socket in
      let all = all-front (Right σ message) (pre ++ (c ∷ more)) post (rw (append_assoc pre (c ∷ more) post) r) in
      subst (λ (m : Message). take (length m.octets) (of_socket c.socket (after σ message (received end) (pre ++ (c ∷ more)))).part ≡ m.octets)
      (message-at end σ message P c.socket b)
      (octets-stand end σ message P (pre ++ (c ∷ more)) (all-at end σ message P (pre ++ (c ∷ more)) all) (call_place c) (place-below c.socket (length σ.links) b)
      (come-later c.socket b pre c more f.0))

  once-here : (pre : List Call) (c : Call) (mid : List Call) (d : Call) (post : List Call) → All (Right σ message) (pre ++ (c ∷ (mid ++ (d ∷ post)))) → c.socket ≡ d.socket
      → (values : List ℕ) → answer σ message (received end) pre c ≡ answered "delivered" values
      → (others : List ℕ) → answer σ message (received end) (pre ++ (c ∷ mid)) d ≡ answered "delivered" others → ⊥
  once-here pre c mid d post r q values e others e' =
      let all : All (Right σ message) ((pre ++ (c ∷ mid)) ++ (d ∷ post)) = rw (append_assoc pre (c ∷ mid) (d ∷ post)) r in
      let b = (right-here pre c (mid ++ (d ∷ post)) r).1.socket in
      let f = only_here pre c (mid ++ (d ∷ post)) r values e in
      let g = only_here (pre ++ (c ∷ mid)) d post all others e' in
      g.1 (subst (λ (s : Socket). AllCome σ message s (pre ++ (c ∷ mid))) q
      (come-all end σ message P c.socket b (pre ++ (c ∷ mid)) (right-here (pre ++ (c ∷ mid)) d post all).0 (come-later c.socket b pre c mid f.0)))

  the-claim : (cs : List Call) → All (Right σ message) cs → Claim σ message (received end) cs
  the-claim cs r =
      let m = mixture call_place (step end σ message P) (length σ.links) get_link (at_link end σ message P) (Sound end σ message P) (RightAt end σ message P) (parts end σ message P) σ cs (starts end σ message P) (all-at end σ message P cs r) in
      record {
        due = λ pre c post e. due-here pre c post (rw e at r);
        only_then = λ pre c post e. only_here pre c post (rw e at r);
        stand = λ pre c more post e. stand-here pre c more post (rw e at r);
        once = λ pre c mid d post e. once-here pre c mid d post (rw e at r);
        same_end = m.0;
        same_answers = m.1;
      }

-- DEMAND 3
pub demand3 : Demand3 received
demand3 end σ message P cs r = the-claim end σ message P cs r
