-- A frame that delivers a message is itself of that message's cut: one of its segments, with the Link ID of the link that it is for.
use Prim.Native.Nat.{ℕ, zero, suc, ◌*◌, ◌≤◌, ◌<◌}
use Rattle.links.specs.declared.Answer.{Answer}
use Rattle.links.specs.declared.Refusal.{Refusal}
use Rattle.std.specs.Prelude.{Some, Result, Ok}
use native.Mathlib.Omega.{arith}
use mathlib.Core.Bool.{true}
use mathlib.Core.List.{List}
use mathlib.Core.Path.{◌≡◌, refl, sym, ap, ◌∙◌, subst}
use lib.ListN.{length, take, drop}
use lib.Seq.{length-take-le, take-take}
use Rattle.octets.specs.Numbers.{Octets}
use Rattle.octets.specs.Parts.{part, write}
use Rattle.octets.proofs.Parts.{write-length}
use Rattle.octets.proofs.Cut.{place_up, piece-take}
use Rattle.transactions.specs.Segments.{seg_n, segment_place}
use Rattle.transactions.specs.declared.TransactionNumber.{TransactionNumber}
use Rattle.pb_adv.specs.Frame.{parsed, segment_octets}
use Rattle.pb_adv.specs.declared.SegmentHeader.{SegmentHeader}
use Rattle.pb_adv.specs.declared.SegmentHeader.TheVariants.{Start}
use Rattle.pb_adv.specs.declared.Segment.{Segment}
use Rattle.pb_adv.specs.declared.Frame.TheVariants as P
use Rattle.pb_adv.proofs.Promises.{segments-are-encodings}
use Rattle.pb_adv_writing.specs.Writing.{header_of, segment_frame}
use Rattle.links.specs.Links.{provisioner}
use Rattle.links.specs.Good.{good_link, good}
use Rattle.links.specs.Segments.{OneLink, entered}
use Rattle.links.specs.Station.{Station, get_link, frame_step, is_right, received}
use Rattle.links.specs.Promises.{addressed}
use Rattle.links.specs.declared.Side.TheVariants.{Provisioner}
use Rattle.links.specs.declared.LinkState.TheVariants as S
use Rattle.links.specs.declared.HalfMessage.{HalfMessage}
use Rattle.links.specs.declared.Answer.TheVariants as A
use Rattle.links.proofs.Deliver.{segment-fits-in, segment-same}
use Rattle.links.proofs.View.{header_at, IfDelivered, Origin, held, begins, New}
use Rattle.links.proofs.Sound.{Ends, is_whole, is_wrong, is_kept, ends, keeps, enters, frame-does}
use Rattle.links.proofs.Sound as Link
use Rattle.links.proofs.Lens.{Sized, right-sized, part-size, get-put, good-get}
use Rattle.links.proofs.Keep.{message-out, open-out, good-as}
use Rattle.links.proofs.Frames.{found-id}
use Rattle.links.proofs.Promises.{placed, provisioner-step, refuses, steps, does, frame-step-keeps}
use Rattle.links.proofs.Promises as Promise

-- ---- a new segment of a message that is whole with it

header-at : (m : List ℕ) (n c k : ℕ) → header_of m 0 ≡ Start n c → header_of m k ≡ header_at n c k
unfolding header_of
header-at m n c zero e = e
header-at m n c (suc k) e = refl

module _ (x : OneLink) (size : length x.part ≡ 1469) (link_good : good_link Provisioner x.link ≡ true) (opened : x.link.state ≡ S.Open)
    (t : TransactionNumber) (header : SegmentHeader) (d : List ℕ) (h : HalfMessage) (k : ℕ) (n : New x t header d h k) where
  lengths : Origin x t header d h k → (1 ≤ h.length) × (h.length ≤ 1469)
  lengths (held e) =
      let o = open-out Provisioner x.link (good-as Provisioner x.link opened link_good) in
      let g = message-out Provisioner x.link.last h (rw e at o.2) in
      (g.some-octets, g.few-octets)
  lengths (begins m v e z some few _) = rw e (some, few)

  some : 1 ≤ h.length
  some = (lengths n.origin).0

  few : h.length ≤ 1469
  few = (lengths n.origin).1

  room : h.length ≤ length x.part
  room = omega (arith, few)

  -- the part with it
  abbrev written : List ℕ
  written = write x.part (segment_place k) d

  abbrev message : List ℕ
  message = take h.length written

  long : length message ≡ h.length
  long =
      length-take-le h.length written
      (omega (arith, room, write-length x.part (segment_place k) d (segment-fits-in h.length x.part k d some room n.inside n.right)))

  of_cut : (id : ℕ) → header_of message 0 ≡ Start h.length h.check → segment_octets id t header d ≡ segment_frame id t message k
  unfolding segment_frame
  of_cut id e =
      rw (
        n.this,
        header-at message h.length h.check k e,
        long,
        piece-take segment_place refl (place_up 20 23) h.length written k,
        segment-same h.length x.part k d some room n.inside n.right,
      )

-- ---- a delivery

module _ (σ : Station) (f : List ℕ) (o : Octets f) where
  abbrev done : Result Answer Refusal × Station
  done = received provisioner σ f

  -- the octets that stand at the start of the part of place s
  abbrev pub standing : ℕ → ℕ → List ℕ
  standing s n = part done.1.area (1469 * s) n

  -- the frame is a segment under the number, for the open link of place s, of the octets that stand in its part
  pub record Delivers (s n : ℕ) (t : TransactionNumber) : Type 0 where
    pub below : s < length σ.links
    pub segment : Segment
    pub is_segment : parsed f ≡ Ok (P.Segment segment)
    pub is_open : (get_link s σ).link.state ≡ S.Open
    pub has_id : segment.id ≡ (get_link s σ).link.id
    pub number : segment.number ≡ t
    pub long : length (standing s n) ≡ n
    pub index : ℕ
    pub inside : index ≤ seg_n n
    pub frame : f ≡ segment_frame segment.id t (standing s n) index

  module _ (s : ℕ) (right : is_right provisioner σ ≡ true) (state_good : good Provisioner σ.links ≡ true) (below : s < length σ.links)
      (at : addressed provisioner σ.links (parsed f) ≡ Some s)
      (q : done ≡ placed σ s (frame_step Provisioner (get_link s σ) (get_link s σ).link.state f (parsed f))) (n : ℕ) (t : TransactionNumber) (delivered : done.0 ≡ Ok (A.Delivered n t)) where
    abbrev x : OneLink
    x = get_link s σ

    sized : Sized σ
    sized = right-sized provisioner σ right

    abbrev r : Result Answer Refusal × OneLink
    r = frame_step Provisioner x x.link.state f (parsed f)

    answer : r.0 ≡ Ok (A.Delivered n t)
    answer = sym (ap (λ (p : Result Answer Refusal × Station). p.0) q) ∙ delivered

    part-after : part done.1.area (1469 * s) 1469 ≡ r.1.part
    unfolding get_link
    part-after =
        ap (λ (y : OneLink). y.part) (ap (λ (p : Result Answer Refusal × Station). get_link s p.1) q
        ∙ get-put (length σ.links) σ refl sized s below r.1 (frame-step-keeps provisioner σ f s o right state_good below).part)

    stands : n ≤ 1469 → standing s n ≡ take n r.1.part
    stands few = sym (take-take n 1469 (drop (1469 * s) done.1.area) few) ∙ ap (take n) part-after

    from : Link.Does x f o (parsed f) r → Delivers s n t
    unfolding header_of
    from (keeps quiet e k) = absurd (subst (IfDelivered (λ n t. ⊥)) answer quiet)
    from (enters g e opened h k new w) = of (ends x h k (part f g.from g.count))
      where
        d : List ℕ
        d = part f g.from g.count

        id : g.id ≡ x.link.id
        id = found-id σ s g.id (rw e at at)

        size : length x.part ≡ 1469
        size = part-size (length σ.links) σ refl sized s below

        link_good : good_link Provisioner x.link ≡ true
        link_good = good-get Provisioner σ s state_good below

        of : Ends x h k d (entered x h k d) → Delivers s n t
        of (is_whole all right end) =
            let step = w ∙ end in
            let a : Ok (A.Delivered h.length h.number) ≡ Ok (A.Delivered n t) = sym (ap (λ (p : Result Answer Refusal × OneLink). p.0) step) ∙ answer in
            let en : h.length ≡ n = cc in
            let et : h.number ≡ t = cc in
            let long' = long x size link_good opened g.number g.header d h k new in
            let is : standing s n ≡ message x size link_good opened g.number g.header d h k new =
            stands (omega (arith, few x size link_good opened g.number g.header d h k new))
            ∙ ap (λ (p : Result Answer Refusal × OneLink). take n p.1.part) step ∙ ap (λ (i : ℕ). take i (write x.part (segment_place k) d)) (sym en) in
            let same : g.number ≡ t = sym new.number ∙ et in
            record {
              below = below;
              segment = g;
              is_segment = e;
              is_open = opened;
              has_id = id;
              number = same;
              long = ap length is ∙ long' ∙ en;
              index = k;
              inside = rw (← en) new.inside;
              frame = rw (is, ← same)
                  ((segments-are-encodings f o g e).encoded
                  ∙ of_cut x size link_good opened g.number g.header d h k new g.id (λ i. Start (long' i) (right i)));
            }
        of (is_wrong end) = let a = sym (ap (λ (p : Result Answer Refusal × OneLink). p.0) (w ∙ end)) ∙ answer in let z : ◌≡◌ {A = ℕ} 0 1 = cc in absurd (omega arith)
        of (is_kept end) = let a = sym (ap (λ (p : Result Answer Refusal × OneLink). p.0) (w ∙ end)) ∙ answer in let z : ◌≡◌ {A = ℕ} 0 1 = cc in absurd (omega arith)

  pub delivers : (s n : ℕ) (t : TransactionNumber) → addressed provisioner σ.links (parsed f) ≡ Some s → done.0 ≡ Ok (A.Delivered n t) → Delivers s n t
  delivers s n t at e = of (does provisioner σ f)
    where
      of : Promise.Does provisioner σ f (parsed f) done → Delivers s n t
      of (refuses a q) = let w = sym (ap (λ (p : Result Answer Refusal × Station). p.0) q) ∙ e in let z : ◌≡◌ {A = ℕ} 0 1 = cc in absurd (omega arith)
      of (steps j right state_good below this q) =
          let same : j ≡ s = cc in
          subst (λ (i : ℕ). Delivers i n t) same (from j right state_good below this (q ∙ ap (placed σ j) (provisioner-step (get_link j σ) f (parsed f))) n t e (frame-does (get_link j σ) f o Provisioner))
