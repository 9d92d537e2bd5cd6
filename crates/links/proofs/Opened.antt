-- A link in use was opened: by any operations, a record comes into use by a local Open alone, or at a device's end by an Open with its own UUID.
use Prim.Native.Nat.{ℕ, ◌<◌}
use Rattle.links.specs.declared.Answer.{Answer}
use Rattle.links.specs.declared.Refusal.{Refusal}
use Rattle.pb_adv.specs.declared.Frame.{Frame}
use Rattle.pb_adv.specs.declared.FrameRefusal.{FrameRefusal}
use Rattle.std.specs.Prelude.{Result, Ok, Err}
use mathlib.Core.Bool.{Bool, true, false, false≢true}
use mathlib.Core.List.{List, [], ◌∷◌, ◌++◌, append_assoc, append-nil}
use mathlib.Core.Path.{◌≡◌, refl, sym, ap, ◌∙◌, subst}
use lib.Dec.{eqb}
use lib.ListN.{length, get_or}
use lib.Seq.{append_snoc, get_or-set_same, get_or-set_other}
use borrow.Author.Tests.{eqb-true, eqb-false}
use Rattle.octets.specs.Numbers.{Octets}
use Rattle.octets.specs.Parts.{part}
use Rattle.octets.specs.Told.{answered}
use Rattle.octets.proofs.Tests.{cases}
use Rattle.transactions.specs.Numbers.{is_socket, socket_place}
use Rattle.transactions.specs.declared.Socket.{Socket}
use Rattle.pb_adv.specs.Frame.{link_id, parsed}
use Rattle.pb_adv.specs.Tables.{malformed}
use Rattle.pb_adv.specs.declared.Frame.TheVariants as P
use Rattle.pb_adv.proofs.Tables.{IsFrame, start, acknowledgement, continuation, opens, acks, closes, Reads, no-frame, unknown, frame, reads}
use Rattle.links.specs.Links.{End, provisioner, device, side_of, blank_with, in_use, find, told}
use Rattle.links.specs.Station.{Station, no_link, get_link, received, is_found, local_open}
use Rattle.links.specs.Segments.{OneLink}
use Rattle.links.specs.Interleaving.{All}
use Rattle.links.specs.Operations.{Operation, receiving, opening, sending, closing, operate, after_all, Offered}
use Rattle.links.specs.Demand2.{UsedUnder, open_word, OpenedBy, IsOpen, Opened, OpenedSince}
use Rattle.links.specs.declared.Side.{Side}
use Rattle.links.specs.declared.Side.TheVariants.{Provisioner, Device}
use Rattle.links.specs.declared.LinkState.TheVariants as S
use Rattle.links.specs.declared.Link.{Link}
use Rattle.links.specs.declared.Answer.TheVariants as A
use Rattle.links.proofs.Interleaving.{after-append, before-each-snoc}
use Rattle.links.proofs.Lens.{InPlace, same_use, unused}
use Rattle.links.proofs.Local.{Calls, refusal, written, open-calls, send-after, close-after}
use Rattle.links.proofs.Opens.{Opens, refuses, finds, begins, openings}
use Rattle.links.proofs.Promises.{by-step, frame-step-keeps, received-at}
use Rattle.links.proofs.Sockets.{socket_at, place-below, socket-at}

same_place : (l : Link) → InPlace l l
same_place l = same_use refl refl

-- ---- one operation more

module _ (end : End) (σ : Station) (socket : Socket) (id : ℕ) where
  further : (c : Operation) (past : List Operation) (d : Operation) → UsedUnder id (get_link (socket_place socket) (after_all end σ past))
      → OpenedBy end σ socket id c past → OpenedBy end σ socket id c (past ++ (d ∷ []))
  further c past d used w = record {
    before = w.before;
    since = w.since ++ (d ∷ []);
    split = ap (λ (p : List Operation). p ++ (d ∷ [])) w.split ∙ append_assoc w.before (c ∷ w.since) (d ∷ []);
    done = w.done;
    held = before-each-snoc (operate end) _ σ w.before _ w.since d w.held (rw (← w.split) used);
  }

-- by the end
still : (end : End) (σ : Station) (socket : Socket) (id : ℕ) (past : List Operation) (d : Operation) → UsedUnder id (get_link (socket_place socket) (after_all end σ past))
    → Opened end σ socket id past → Opened end σ socket id (past ++ (d ∷ []))
still provisioner σ socket id past d used w = further provisioner σ socket id (opening socket id) past d used w
still (device own) σ socket id past d used w = (w.0, w.1, further (device own) σ socket id (receiving w.0) past d used w.2)

-- the operation itself
now : (end : End) (σ : Station) (socket : Socket) (id : ℕ) (past : List Operation) (c : Operation) → told (operate end (after_all end σ past) c).0 ≡ answered (open_word end) []
    → OpenedBy end σ socket id c (past ++ (c ∷ []))
now end σ socket id past c e = record { before = past; since = []; split = refl; done = e; held = tt }

-- ---- octets received: an Open that comes to a device

abbrev is_open_frame : Result Frame FrameRefusal → Bool
is_open_frame (Ok (P.Segment s)) = false
is_open_frame (Ok (P.Acknowledgement id t)) = false
is_open_frame (Ok (P.Open id uuid)) = true
is_open_frame (Ok (P.Ack id)) = false
is_open_frame (Ok (P.Close id reason)) = false
is_open_frame (Err r) = false

no-open : {B : Type 0} (p : Result Frame FrameRefusal) (id uuid : ℕ) → is_open_frame p ≡ false → p ≡ Ok (P.Open id uuid) → B
no-open p id uuid n e = absurd (false≢true (sym n ∙ ap is_open_frame e))

-- what an Open is by its octets
is_open : (f : List ℕ) (id uuid : ℕ) (own : List ℕ) → parsed f ≡ Ok (P.Open id uuid) → part f uuid 16 ≡ own → IsOpen id own f
is_open f id uuid own e u = of (parsed f) (reads f) e
  where
    by-frame : (p : Result Frame FrameRefusal) → IsFrame f p → malformed f ≡ false → p ≡ Ok (P.Open id uuid) → IsOpen id own f
    by-frame p (start k s) m e = no-open _ id uuid refl e
    by-frame p (acknowledgement k) m e = no-open _ id uuid refl e
    by-frame p (continuation k h) m e = no-open _ id uuid refl e
    by-frame p (opens k h) m e =
        let i : link_id f ≡ id = cc in
        let w : 6 ≡ uuid = cc in
        record { fits = m; opcode = rw (k, h); has_id = i; has_uuid = ap (λ (n : ℕ). part f n 16) w ∙ u }
    by-frame p (acks k h) m e = no-open _ id uuid refl e
    by-frame p (closes k h) m e = no-open _ id uuid refl e

    of : (p : Result Frame FrameRefusal) → Reads f p → p ≡ Ok (P.Open id uuid) → IsOpen id own f
    of p (no-frame m) e = no-open _ id uuid refl e
    of p (unknown m n) e = no-open _ id uuid refl e
    of p (frame m n r) e = by-frame p r m e

abbrev is_device : End → Bool
is_device provisioner = false
is_device (device own) = true

abbrev own_of : End → List ℕ
own_of provisioner = []
own_of (device own) = own

opened-by-frame : (end : End) (σ : Station) (socket : Socket) (past : List Operation) (f own : List ℕ) (id uuid : ℕ) → end ≡ device own → parsed f ≡ Ok (P.Open id uuid)
    → part f uuid 16 ≡ own → (received end (after_all end σ past) f).0 ≡ Ok A.Opened → Opened end σ socket id (past ++ (receiving f ∷ []))
opened-by-frame provisioner σ socket past f own id uuid is e u a = absurd (false≢true (ap is_device is))
opened-by-frame (device mine) σ socket past f own id uuid is e u a =
    (f, is_open f id uuid mine e (u ∙ sym (ap own_of is)), now (device mine) σ socket id past (receiving f) (ap told a))

abbrev is_device_side : Side → Bool
is_device_side Provisioner = false
is_device_side Device = true

opened-locally : (end : End) (σ : Station) (socket : Socket) (past : List Operation) (id : ℕ) → side_of end ≡ Provisioner
    → told (operate end (after_all end σ past) (opening socket id)).0 ≡ answered "done" [] → Opened end σ socket id (past ++ (opening socket id ∷ []))
opened-locally provisioner σ socket past id is e = now provisioner σ socket id past (opening socket id) e
opened-locally (device own) σ socket past id is e = absurd (false≢true (sym (ap is_device_side is)))

module _ (end : End) (σ : Station) (socket : Socket) (numbered : is_socket socket (length σ.links) ≡ true) where
  -- its place
  abbrev s : ℕ
  s = socket_place socket

  abbrev after : List Operation → Station
  after past = after_all end σ past

  -- if it is in use, it was opened
  abbrev IfUsed : List Operation → Link → Type 0
  IfUsed past l = in_use l.state ≡ true → Opened end σ socket l.id past

  goes_on : (past : List Operation) (c : Operation) (m : Link) → IfUsed past (get_link s (after past)).link → InPlace m (get_link s (after past)).link → IfUsed (past ++ (c ∷ [])) m
  goes_on past c m i (same_use u e) h =
      let used = sym u ∙ h in
      rw e (still end σ socket _ past c (record { is_used = used; has_id = refl }) (i used))
  goes_on past c m i (unused u) h = absurd (false≢true (sym u ∙ h))

  module _ (past : List Operation) (i : IfUsed past (get_link s (after past)).link) where
    received-use : (f : List ℕ) → Octets f → IfUsed (past ++ (receiving f ∷ [])) (get_link s (received end (after past) f).1).link
    received-use f o =
        received-at end (after past) f o s (λ x. IfUsed (past ++ (receiving f ∷ [])) x.link) (goes_on past (receiving f) _ i (same_place (get_link s (after past)).link))
        (λ right state_good below _ q. by-step (λ r. (received end (after past) f).0 ≡ r.0 → IfUsed (past ++ (receiving f ∷ [])) r.1.link) end (get_link s (after past)) f (parsed f)
        (λ own id uuid is e a. opened-use own id uuid is e a (openings own (get_link s (after past)) f id uuid))
        (λ _. goes_on past (receiving f) _ i (frame-step-keeps end (after past) f s o right state_good below).in_place)
        (ap (λ (r : Result Answer Refusal × Station). r.0) q))
      where
        opened-use : (own : List ℕ) (id uuid : ℕ) → end ≡ device own → parsed f ≡ Ok (P.Open id uuid) → {r : Result Answer Refusal × OneLink} → (received end (after past) f).0 ≡ r.0
            → Opens own (get_link s (after past)) f id uuid r → IfUsed (past ++ (receiving f ∷ [])) r.1.link
        opened-use own id uuid is e a (refuses r n q) = rw q (goes_on past (receiving f) _ i (same_place (get_link s (after past)).link))
        opened-use own id uuid is e a (finds q) = rw q (goes_on past (receiving f) _ i (same_place (get_link s (after past)).link))
        opened-use own id uuid is e a (begins u n q) =
            rw q (λ _. opened-by-frame end σ socket past f own id uuid is e u (a ∙ ap (λ (r : Result Answer Refusal × OneLink). r.0) q))

    local-use : (w : Socket) (id : ℕ) → side_of end ≡ Provisioner → IfUsed (past ++ (opening w id ∷ [])) (get_or (local_open (side_of end) (after past).links w id).1 s no_link)
    unfolding get_link
    local-use w id offered = of (open-calls (side_of end) (after past).links w id)
      where
        of : Calls (side_of end) (after past).links w (is_found (find (after past).links id) ≡ false) (Ok A.Done) (blank_with (side_of end) S.Opening id) (local_open (side_of end) (after past).links w id)
            → IfUsed (past ++ (opening w id ∷ [])) (get_or (local_open (side_of end) (after past).links w id).1 s no_link)
        of (refusal q e) = rw e (goes_on past _ _ i (same_place (get_or (after past).links s no_link)))
        of (written r g u e) =
            cases (eqb (socket_place w) s)
            (λ q. let p : socket_place w ≡ s = eqb-true (socket_place w) s q in
            let same : w ≡ socket = sym (socket-at w (length (after past).links) r) ∙ ap socket_at p ∙ socket-at socket (length σ.links) numbered in
            let below : s < length (after past).links = rw p at (place-below w (length (after past).links) r) in
            let done : told (local_open (side_of end) (after past).links w id).0 ≡ answered "done" [] = ap (λ (r : Result Answer Refusal × List Link). told r.0) e in
            rw (e, p, get_or-set_same (after past).links s (blank_with (side_of end) S.Opening id) no_link below)
            (λ _. subst (λ (z : Socket). Opened end σ socket id (past ++ (opening z id ∷ []))) (sym same)
            (opened-locally end σ socket past id offered (subst (λ (z : Socket). told (local_open (side_of end) (after past).links z id).0 ≡ answered "done" []) same done))))
            (λ q. rw (e, get_or-set_other (after past).links (socket_place w) s (blank_with (side_of end) S.Opening id) no_link (λ z. eqb-false (socket_place w) s q (sym z)))
            (goes_on past _ _ i (same_place (get_or (after past).links s no_link))))

    operate-use : (c : Operation) → Offered end c → IfUsed (past ++ (c ∷ [])) (get_link s (operate end (after past) c).1).link
    unfolding get_link
    operate-use (receiving f) o = received-use f o
    operate-use (opening w id) o = local-use w id o
    operate-use (sending w n) o = goes_on past _ _ i (send-after (λ l m. InPlace m l) same_place (side_of end) (after past).links w s n (λ l. same_use refl refl))
    operate-use (closing w) o = goes_on past _ _ i (close-after (λ l m. InPlace m l) same_place (side_of end) (after past).links w s (λ l. unused refl))

  runs : (a b : List Operation) → All (Offered end) b → IfUsed a (get_link s (after a)).link → IfUsed (a ++ b) (get_link s (after (a ++ b))).link
  runs a [] o i = rw (append-nil a) i
  runs a (c ∷ b) o i =
      rw (← (append_snoc a c b)) (runs (a ++ (c ∷ [])) b o.1 (rw (after-append (operate end) σ a (c ∷ [])) (operate-use a i c o.0)))

-- A LINK IN USE WAS OPENED
pub opened-since : OpenedSince
opened-since end σ s numbered free operations o = runs end σ s numbered [] operations o (λ h. absurd (false≢true (sym free ∙ h)))
