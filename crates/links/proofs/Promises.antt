-- The promises of `specs/Promises.antt`.
use Prim.Native.Nat.{ℕ, ◌*◌, ◌<◌}
use Rattle.links.specs.declared.Answer.{Answer}
use Rattle.pb_adv.specs.declared.Frame.{Frame}
use Rattle.pb_adv.specs.declared.FrameRefusal.{FrameRefusal}
use Rattle.std.specs.Prelude.{Option, Some, None, Result, Ok, Err}
use native.Mathlib.Omega.{arith}
use mathlib.Core.Bool.{Bool, true, false, not, false≢true}
use mathlib.Core.List.{List, [], ◌∷◌}
use mathlib.Core.Logic.{◌≢◌}
use mathlib.Core.Path.{◌≡◌, refl, sym, ap, ◌∙◌, subst}
use lib.Dec.{eqb, leb}
use lib.ListN.{length, get_or, set, length-set}
use lib.Seq.{get_or-set_other}
use borrow.Author.Tests.{eqb-true, eqb-false, ne_eqb, leb-true}
use Rattle.octets.specs.Numbers.{Octets}
use Rattle.octets.specs.Told.{Told, refused, answered}
use Rattle.octets.proofs.Tables.{other-told}
use Rattle.octets.proofs.Tests.{cases, both_hold}
use Rattle.transactions.specs.Numbers.{is_socket, socket_place}
use Rattle.pb_adv.specs.Frame.{parsed}
use Rattle.transactions.specs.declared.Socket.{Socket}
use Rattle.pb_adv.specs.declared.Frame.TheVariants as P
use Rattle.links.specs.Links.{End, provisioner, device, side_of, blank, blank_with, find, refusal_number, told}
use Rattle.links.specs.Good.{good_link, good}
use Rattle.links.specs.Segments.{OneLink}
use Rattle.links.specs.Station.{Station, no_link, get_link, put_link, frame_refusal, frame_step, at_socket, open_step, on_open, on_frame, is_right, received, link_at, with_link, is_found, local_open, is_open, local_send, local_close}
use Rattle.links.specs.Operations.{Operation, receiving, opening, sending as sends-message, closing, operate, after_all}
use Rattle.links.specs.Tables.{leaves}
use Rattle.links.specs.Promises.{ReceivingRefusalKeeps, ReceivingKeepsGood, addressed, ReceivingLeavesOthers, LocalCall, LocalCalls}
use Rattle.links.specs.declared.Side.{Side}
use Rattle.links.specs.declared.Side.TheVariants.{Provisioner, Device}
use Rattle.links.specs.declared.LinkState.{LinkState}
use Rattle.links.specs.declared.LinkState.TheVariants as S
use Rattle.links.specs.declared.Link.{Link}
use Rattle.links.specs.declared.Refusal.{Refusal}
use Rattle.links.specs.declared.Refusal.TheVariants as R
use Rattle.links.specs.declared.Answer.TheVariants as A
use Rattle.links.proofs.Lens.{Sized, right-sized, right-one, right-as, put-room, get-put, get-put-other, put-get, found_at, found_nowhere, apart-sym, same_use, unused, all-at, good-out, good-get, good-apart, good-set, good-put, part-size}
use Rattle.links.proofs.Local.{Calls, refusal, written, open-calls, sending, send-calls, close-calls, open-count, send-count, close-count}
use Rattle.links.proofs.Frames.{place-for}
use Rattle.links.proofs.Tables.{receiving-leaves}
use Rattle.links.proofs.Opens.{open-holds}
use Rattle.links.proofs.Keep.{open-out, open_in, good-as, blank-good, FrameKeeps, frame-keeps}

-- a refusal
abbrev is_refused : Told → Bool
is_refused (refused n) = true
is_refused (answered word values) = false

-- ---- what the receiving call does

-- what a frame does at the link that it is for, by the end
abbrev pub step_of : End → OneLink → List ℕ → Result Frame FrameRefusal → Result Answer Refusal × OneLink
step_of end x f (Ok (P.Segment s)) = frame_step (side_of end) x x.link.state f (Ok (P.Segment s))
step_of end x f (Ok (P.Acknowledgement id t)) = frame_step (side_of end) x x.link.state f (Ok (P.Acknowledgement id t))
step_of provisioner x f (Ok (P.Open id uuid)) = frame_step Provisioner x x.link.state f (Ok (P.Open id uuid))
step_of (device own) x f (Ok (P.Open id uuid)) = open_step own x f id uuid
step_of end x f (Ok (P.Ack id)) = frame_step (side_of end) x x.link.state f (Ok (P.Ack id))
step_of end x f (Ok (P.Close id reason)) = frame_step (side_of end) x x.link.state f (Ok (P.Close id reason))
step_of end x f (Err r) = frame_step (side_of end) x x.link.state f (Err r)

-- whatever holds of an Open at a device's link, and of a frame at its link, holds of it
pub by-step : (H : Result Answer Refusal × OneLink → Type 0) (end : End) (x : OneLink) (f : List ℕ) (p : Result Frame FrameRefusal)
    → ((own : List ℕ) (id uuid : ℕ) → end ≡ device own → p ≡ Ok (P.Open id uuid) → H (open_step own x f id uuid))
    → H (frame_step (side_of end) x x.link.state f p) → H (step_of end x f p)
by-step H end x f (Ok (P.Segment s)) o h = h
by-step H end x f (Ok (P.Acknowledgement id t)) o h = h
by-step H provisioner x f (Ok (P.Open id uuid)) o h = h
by-step H (device own) x f (Ok (P.Open id uuid)) o h = o own id uuid refl refl
by-step H end x f (Ok (P.Ack id)) o h = h
by-step H end x f (Ok (P.Close id reason)) o h = h
by-step H end x f (Err r) o h = h

pub provisioner-step : (x : OneLink) (f : List ℕ) (p : Result Frame FrameRefusal) → step_of provisioner x f p ≡ frame_step Provisioner x x.link.state f p
provisioner-step x f (Ok (P.Segment s)) = refl
provisioner-step x f (Ok (P.Acknowledgement id t)) = refl
provisioner-step x f (Ok (P.Open id uuid)) = refl
provisioner-step x f (Ok (P.Ack id)) = refl
provisioner-step x f (Ok (P.Close id reason)) = refl
provisioner-step x f (Err r) = refl

-- a step of the link at a place
abbrev pub placed : Station → ℕ → Result Answer Refusal × OneLink → Result Answer Refusal × Station
placed σ s q = (q.0, put_link s q.1 σ)

module _ (end : End) (σ : Station) (f : List ℕ) where
  -- it refuses and changes nothing, or a link takes a step
  pub data Does (p : Result Frame FrameRefusal) (r : Result Answer Refusal × Station) : Type 0 where
    refuses : (a : Refusal) → r ≡ (Err a, σ) → Does p r
    steps : (s : ℕ) → is_right end σ ≡ true → good (side_of end) σ.links ≡ true → s < length σ.links → addressed end σ.links p ≡ Some s
        → r ≡ placed σ s (step_of end (get_link s σ) f p) → Does p r

  module _ (right : is_right end σ ≡ true) (state_good : good (side_of end) σ.links ≡ true) where
    -- by the record that its Link ID finds
    does_at : (p : Result Frame FrameRefusal) → ((x : OneLink) → frame_step (side_of end) x x.link.state f p ≡ step_of end x f p) → (id : ℕ) → addressed end σ.links p ≡ find σ.links id
        → (o : Option ℕ) → find σ.links id ≡ o → Does p (at_socket (side_of end) σ o f p)
    does_at p t id e None q = refuses R.UnknownLink refl
    does_at p t id e (Some s) q = steps s right state_good (found_at σ.links id s q).0 (e ∙ q) (ap (placed σ s) (t (get_link s σ)))

does-open : (end : End) (σ : Station) (f : List ℕ) → is_right end σ ≡ true → good (side_of end) σ.links ≡ true → (id uuid : ℕ)
    → Does end σ f (Ok (P.Open id uuid)) (on_open end σ f id uuid)
does-open provisioner σ f right state_good id uuid = does_at provisioner σ f right state_good (Ok (P.Open id uuid)) (λ x. refl) id refl (find σ.links id) refl
does-open (device own) σ f right state_good id uuid = steps 0 right state_good (omega (arith, right-one own σ right)) refl refl

module _ (end : End) (σ : Station) (f : List ℕ) where
  module _ (right : is_right end σ ≡ true) (state_good : good (side_of end) σ.links ≡ true) where
    does-frame : (p : Result Frame FrameRefusal) → Does end σ f p (on_frame end σ f p)
    does-frame (Ok (P.Segment s)) = does_at end σ f right state_good (Ok (P.Segment s)) (λ x. refl) s.id refl (find σ.links s.id) refl
    does-frame (Ok (P.Acknowledgement id t)) = does_at end σ f right state_good (Ok (P.Acknowledgement id t)) (λ x. refl) id refl (find σ.links id) refl
    does-frame (Ok (P.Open id uuid)) = does-open end σ f right state_good id uuid
    does-frame (Ok (P.Ack id)) = does_at end σ f right state_good (Ok (P.Ack id)) (λ x. refl) id refl (find σ.links id) refl
    does-frame (Ok (P.Close id reason)) = does_at end σ f right state_good (Ok (P.Close id reason)) (λ x. refl) id refl (find σ.links id) refl
    does-frame (Err r) = refuses (frame_refusal r) refl

  pub does : Does end σ f (parsed f) (received end σ f)
  unfolding received
  does =
      cases (is_right end σ)
      (λ e. rw e (cases (good (side_of end) σ.links)
      (λ g. rw g (does-frame e g (parsed f)))
      (λ g. rw g (refuses R.BadState refl))))
      (λ e. rw e (refuses R.WrongArgument refl))

  -- the step that a link takes
  abbrev pub stepped : ℕ → OneLink
  stepped s = (step_of end (get_link s σ) f (parsed f)).1

  -- what it owes: the size of its part, and a state that isn't bad
  pub record StepKeeps (s : ℕ) (y : OneLink) : Type 0 where
    pub part : length y.part ≡ 1469
    pub good : good (side_of end) (put_link s y σ).links ≡ true

-- an Open leaves the part, and a good record good
module _ (own : List ℕ) (x : OneLink) (f : List ℕ) (id uuid : ℕ) where
  pub open-part : (open_step own x f id uuid).1.part ≡ x.part
  open-part = open-holds own x f id uuid (λ y. y.part ≡ x.part) refl (λ _. refl)

  open-link-good : good_link Device x.link ≡ true → good_link Device (open_step own x f id uuid).1.link ≡ true
  open-link-good h = open-holds own x f id uuid (λ y. good_link Device y.link ≡ true) h (λ _. refl)

module _ (end : End) (σ : Station) (f : List ℕ) (s : ℕ) (o : Octets f) (right : is_right end σ ≡ true) (state_good : good (side_of end) σ.links ≡ true) (below : s < length σ.links) where
  sized : Sized σ
  sized = right-sized end σ right

  part-long : length (get_link s σ).part ≡ 1469
  part-long = part-size (length σ.links) σ refl sized s below

  -- of a frame, and whether its record stays in its place
  pub frame-step-keeps : FrameKeeps (side_of end) (get_link s σ) (frame_step (side_of end) (get_link s σ) (get_link s σ).link.state f (parsed f)).1
  frame-step-keeps = frame-keeps (side_of end) (get_link s σ) (good-get (side_of end) σ s state_good below) part-long f o (parsed f) refl

  -- the one record of a device is apart from all others
  open-keeps : (own : List ℕ) (id uuid : ℕ) → end ≡ device own → StepKeeps end σ f s (open_step own (get_link s σ) f id uuid).1
  unfolding put_link
  open-keeps own id uuid e =
      let one = right-one own σ (subst (λ (z : End). is_right z σ ≡ true) e right) in
      record {
        part = ap length (open-part own (get_link s σ) f id uuid) ∙ part-long;
        good = subst (λ (z : End). good (side_of z) (set σ.links s (open_step own (get_link s σ) f id uuid).1.link) ≡ true) (sym e)
            (good-apart Device σ.links s _ (subst (λ (z : End). good (side_of z) σ.links ≡ true) e state_good)
            (open-link-good own (get_link s σ) f id uuid (subst (λ (z : End). good_link (side_of z) (get_link s σ).link ≡ true) e (good-get (side_of end) σ s state_good below)))
            (λ j b d. absurd (d (omega (arith, one)))));
      }

  pub stepped-keeps : StepKeeps end σ f s (stepped end σ f s)
  stepped-keeps =
      by-step (λ q. StepKeeps end σ f s q.1) end (get_link s σ) f (parsed f)
      (λ own id uuid e _. open-keeps own id uuid e)
      (let k = frame-step-keeps in record { part = k.part; good = good-put (side_of end) σ s _ state_good k.link k.in_place })

-- a refusal but 8 leaves the link
refused-leaves : (side : Side) (x : OneLink) (f : List ℕ) (n : ℕ) → n ≢ 8 → (a : Result Answer Refusal) → told a ≡ refused n → leaves side x f a ≡ x
refused-leaves side x f n h (Err r) e = let q : refusal_number r ≡ n = cc in rw (ne_eqb (refusal_number r) 8 (λ z. h (sym q ∙ z)))
refused-leaves side x f n h (Ok A.AcknowledgeAgain) e = refl
refused-leaves side x f n h (Ok A.Kept) e = other-told _ _ refl e
refused-leaves side x f n h (Ok A.Repeat) e = refl
refused-leaves side x f n h (Ok (A.Delivered m t)) e = other-told _ _ refl e
refused-leaves side x f n h (Ok A.Opened) e = other-told _ _ refl e
refused-leaves side x f n h (Ok A.Already) e = refl
refused-leaves side x f n h (Ok (A.Closed reason)) e = other-told _ _ refl e
refused-leaves side x f n h (Ok A.Acknowledged) e = other-told _ _ refl e
refused-leaves side x f n h (Ok (A.Sending t m)) e = refl
refused-leaves side x f n h (Ok A.Done) e = refl

pub receiving-refusal-keeps : ReceivingRefusalKeeps
receiving-refusal-keeps end σ f n e h = of (does end σ f)
  where
    of : Does end σ f (parsed f) (received end σ f) → (received end σ f).1 ≡ σ
    of (refuses a q) = ap (λ (r : Result Answer Refusal × Station). r.1) q
    of (steps s right state_good below at q) =
        receiving-leaves end σ f right state_good s (place-for end σ.links f s at)
        ∙ ap (λ (y : OneLink). put_link s y σ) (refused-leaves (side_of end) (get_link s σ) f n h (received end σ f).0 e) ∙ put-get s σ (omega (arith, right-sized end σ right))

pub receiving-keeps-good : ReceivingKeepsGood
receiving-keeps-good end σ f o h = of (does end σ f)
  where
    of : {r : Result Answer Refusal × Station} → Does end σ f (parsed f) r → good (side_of end) r.1.links ≡ true
    of (refuses a q) = rw q h
    of (steps s right state_good below at q) = rw q (stepped-keeps end σ f s o right state_good below).good

-- what holds of a link, and of it after the step of a frame that is for it, holds of it after any call
pub received-at : (end : End) (σ : Station) (f : List ℕ) → Octets f → (s : ℕ) (P : OneLink → Type 0) → P (get_link s σ)
    → (is_right end σ ≡ true → good (side_of end) σ.links ≡ true → s < length σ.links → addressed end σ.links (parsed f) ≡ Some s
    → received end σ f ≡ placed σ s (step_of end (get_link s σ) f (parsed f)) → P (stepped end σ f s)) → P (get_link s (received end σ f).1)
received-at end σ f o s P p h = of (does end σ f)
  where
    own : is_right end σ ≡ true → good (side_of end) σ.links ≡ true → s < length σ.links → addressed end σ.links (parsed f) ≡ Some s
        → received end σ f ≡ placed σ s (step_of end (get_link s σ) f (parsed f)) → P (get_link s (received end σ f).1)
    own right state_good below at q =
        rw (q, get-put (length σ.links) σ refl (right-sized end σ right) s below (stepped end σ f s) (stepped-keeps end σ f s o right state_good below).part) (h right state_good below at q)

    of : Does end σ f (parsed f) (received end σ f) → P (get_link s (received end σ f).1)
    of (refuses a q) = rw q p
    of (steps j right state_good below at q) =
        cases (eqb j s)
        (λ e. let z : j ≡ s = eqb-true j s e in
        own right state_good (rw (← z) below) (at ∙ ap Some z) (q ∙ ap (λ (i : ℕ). placed σ i (step_of end (get_link i σ) f (parsed f))) z))
        (λ e. rw (q, get-put-other (length σ.links) σ refl (right-sized end σ right) j below (stepped end σ f j) (stepped-keeps end σ f j o right state_good below).part s (eqb-false j s e)) p)

pub receiving-leaves-others : ReceivingLeavesOthers
receiving-leaves-others end σ f j o h = received-at end σ f o j (λ x. x ≡ get_link j σ) refl (λ _ _ _ at _. absurd (h at))

-- a station keeps its records, and the area its size
pub receiving-keeps-count : (end : End) (σ : Station) (f : List ℕ) → length (received end σ f).1.links ≡ length σ.links
unfolding put_link
receiving-keeps-count end σ f = of (does end σ f)
  where
    of : {r : Result Answer Refusal × Station} → Does end σ f (parsed f) r → length r.1.links ≡ length σ.links
    of (refuses a q) = rw q
    of (steps s right state_good below at q) = rw q (length-set σ.links s _)

pub receiving-keeps-size : (end : End) (σ : Station) (f : List ℕ) → Octets f → Sized σ → Sized (received end σ f).1
receiving-keeps-size end σ f o size = rw (receiving-keeps-count end σ f) (of (does end σ f))
  where
    of : {r : Result Answer Refusal × Station} → Does end σ f (parsed f) r → length r.1.area ≡ 1469 * length σ.links
    of (refuses a q) = rw q size
    of (steps s right state_good below at q) =
        rw q (put-room (length σ.links) σ refl (right-sized end σ right) s below (stepped end σ f s) (stepped-keeps end σ f s o right state_good below).part)

-- and right arguments stay right
pub receiving-keeps-right : (end : End) (σ : Station) (f : List ℕ) → Octets f → is_right end σ ≡ true → is_right end (received end σ f).1 ≡ true
receiving-keeps-right end σ f o right =
    let sized = right-sized end σ right in
    let count = receiving-keeps-count end σ f in
    right-as end σ _ count (receiving-keeps-size end σ f o sized ∙ ap (λ (n : ℕ). 1469 * n) count ∙ sym sized) right

pub operate-count : (end : End) (σ : Station) (c : Operation) → length (operate end σ c).1.links ≡ length σ.links
operate-count end σ (receiving f) = receiving-keeps-count end σ f
operate-count end σ (opening s id) = open-count (side_of end) σ.links s id
operate-count end σ (sends-message s n) = send-count (side_of end) σ.links s n
operate-count end σ (closing s) = close-count (side_of end) σ.links s

pub after-count : (end : End) (σ : Station) (operations : List Operation) → length (after_all end σ operations).links ≡ length σ.links
after-count end σ [] = refl
after-count end σ (c ∷ operations) = after-count end (operate end σ c).1 operations ∙ operate-count end σ c

-- ---- the local calls

is_open_lem : (state : LinkState) → is_open state ≡ true → state ≡ S.Open
is_open_lem S.Free e = absurd (false≢true e)
is_open_lem S.Opening e = absurd (false≢true e)
is_open_lem S.Open e = refl

not_found : (o : Option ℕ) → is_found o ≡ false → o ≡ None
not_found (Some s) e = absurd (false≢true (sym e))
not_found None e = refl

-- a local call that writes l where C is so, and leaves a good state with it
module _ (side : Side) (s : Socket) (call : List Link → Result Answer Refusal × List Link) (C : List Link → Type 0) (a : List Link → Result Answer Refusal) (l : List Link → Link)
    (d : (ls : List Link) → Calls side ls s (C ls) (a ls) (l ls) (call ls)) (accepts : (ls : List Link) → is_refused (told (a ls)) ≡ false)
    (good-with : (ls : List Link) → is_socket s (length ls) ≡ true → good side ls ≡ true → C ls → good side (with_link ls s (l ls)) ≡ true) where
  kept : (ls : List Link) (n : ℕ) {r : Result Answer Refusal × List Link} → Calls side ls s (C ls) (a ls) (l ls) r → told r.0 ≡ refused n → r.1 ≡ ls
  kept ls n (refusal q e) h = ap (λ (r : Result Answer Refusal × List Link). r.1) e
  kept ls n (written r g c e) h = absurd (false≢true (sym (accepts ls) ∙ sym (ap (λ (r : Result Answer Refusal × List Link). is_refused (told r.0)) e) ∙ ap is_refused h))

  kept-good : (ls : List Link) {r : Result Answer Refusal × List Link} → Calls side ls s (C ls) (a ls) (l ls) r → good side ls ≡ true → good side r.1 ≡ true
  kept-good ls (refusal q e) h = rw e h
  kept-good ls (written r g c e) h = rw e (good-with ls r g c)

  left : (ls : List Link) (j : ℕ) {r : Result Answer Refusal × List Link} → Calls side ls s (C ls) (a ls) (l ls) r → j ≢ socket_place s → get_or r.1 j no_link ≡ get_or ls j no_link
  left ls j (refusal q e) h = rw e
  left ls j (written r g c e) h = rw e (get_or-set_other ls (socket_place s) j (l ls) no_link h)

  local-call : LocalCall side s call
  local-call = record { refusal-keeps = λ ls n. kept ls n (d ls); keeps-good = λ ls. kept-good ls (d ls); leaves-others = λ ls j. left ls j (d ls) }

close-good : (side : Side) (s : Socket) (ls : List Link) → good side ls ≡ true → good side (with_link ls s (blank side)) ≡ true
close-good side s ls g = good-set side ls (socket_place s) (blank side) g (blank-good side) (unused refl)

-- a record that is open may send
send-good : (side : Side) (s : Socket) (ls : List Link) → is_socket s (length ls) ≡ true → good side ls ≡ true → is_open (link_at ls s).state ≡ true
    → good side (with_link ls s (sending side ls s)) ≡ true
send-good side s ls right g e =
    let l = link_at ls s in
    let b = both_hold {a = leb 1 s.0} {b = leb s.0 (length ls)} right in
    let below : socket_place s < length ls = omega (arith, leb-true 1 s.0 b.0, leb-true s.0 (length ls) b.1) in
    let opened = is_open_lem l.state e in
    let o = open-out side l (good-as side l opened (all-at (good_link side) ls (socket_place s) no_link (good-out side ls g).0 below)) in
    good-set side ls (socket_place s) (sending side ls s) g (open_in side (sending side ls s) opened o.0 o.1 o.2) (same_use refl refl)

-- an opening record with a Link ID that isn't in use
open-good : (ls : List Link) (s id : ℕ) → find ls id ≡ None → good Provisioner ls ≡ true → good Provisioner (set ls s (blank_with Provisioner S.Opening id)) ≡ true
open-good ls s id e g =
    let l = blank_with Provisioner S.Opening id in
    good-apart Provisioner ls s l g refl (λ j b d. apart-sym l (get_or ls j no_link) ∙ ap not (found_nowhere ls id e j))

pub local-calls : LocalCalls
local-calls = record {
  opening = λ s id. local-call Provisioner s (λ ls. local_open Provisioner ls s id) _ _ _ (λ ls. open-calls Provisioner ls s id) (λ ls. refl)
      (λ ls r g u. open-good ls (socket_place s) id (not_found (find ls id) u) g);
  sending = λ side s n. local-call side s (λ ls. local_send side ls s n) _ _ _ (λ ls. send-calls side ls s n) (λ ls. refl) (send-good side s);
  closing = λ side s. local-call side s (λ ls. local_close side ls s) _ _ _ (λ ls. close-calls side ls s) (λ ls. refl) (λ ls r g u. close-good side s ls g);
}
