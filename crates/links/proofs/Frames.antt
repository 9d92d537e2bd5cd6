-- The frames of a cut, their segments by number, and the link that a frame is for.
use Prim.Native.Nat.{ℕ, zero, suc, ◌+◌, ◌*◌, ◌-◌, ◌%◌, ◌<◌}
use Rattle.pb_adv.specs.declared.Frame.{Frame}
use Rattle.pb_adv.specs.declared.FrameRefusal.{FrameRefusal}
use Rattle.std.specs.Prelude.{Some, Result}
use native.Mathlib.Omega.{arith}
use mathlib.Core.Bool.{false, cond, false≢true}
use mathlib.Core.List.Memᴰ
use mathlib.Core.List.{List, [], ◌∷◌, map, Memᴰ}
use mathlib.Core.Logic.{◌⊎◌, inl, inr}
use mathlib.Core.Path.{◌≡◌, refl, sym, ap, ◌∙◌}
use lib.Dec.{eqb, leb}
use lib.ListN.{length, get_or}
use borrow.Author.Tests.{eqb-true, leb-true, leb-false, eq-eqb, ne_eqb}
use Rattle.octets.specs.Cut.{up_to}
use Rattle.octets.proofs.Cut.{map-up-to}
use Rattle.octets.proofs.Tests.{cases, both, both_hold}
use Rattle.transactions.specs.Segments.{seg_n}
use Rattle.transactions.specs.declared.TransactionNumber.{TransactionNumber}
use Rattle.pb_adv.specs.Frame.{link_id, high_bits, parsed, segment_octets}
use Rattle.pb_adv.specs.Tables.{is_kind}
use Rattle.pb_adv.proofs.Promises.{id-back}
use Rattle.pb_adv.proofs.Tables.{IsFrame, start, acknowledgement, continuation, opens, acks, closes, Reads, no-frame, unknown, frame, reads}
use Rattle.pb_adv_writing.specs.Writing.{header_of, segment_frame, message_frames}
use Rattle.links.specs.Links.{End, provisioner, device, in_use, find}
use Rattle.links.specs.Station.{Station, no_link, get_link}
use Rattle.links.specs.Promises.{addressed}
use Rattle.links.specs.Demand3.{since_start as frames_since, AllAmong}
use Rattle.links.specs.Demand2.{is_other}
use Rattle.links.specs.Tables.{place_for}
use Rattle.links.specs.declared.Link.{Link}
use Rattle.links.proofs.Come.{since_start, Each}
use Rattle.links.proofs.Lens.{found_at}

-- ---- the frames of a message's cut are those of its segments

pub record OfCut (id : ℕ) (t : TransactionNumber) (m : List ℕ) (n : ℕ) (f : List ℕ) : Type 0 where
  pub index : ℕ
  pub below : index < n
  pub is : f ≡ segment_frame id t m index

pub of_cut_lem : (id : ℕ) (t : TransactionNumber) (m : List ℕ) (n : ℕ) (f : List ℕ) → Memᴰ f (map (segment_frame id t m) (up_to n)) → OfCut id t m n f
unfolding up_to
of_cut_lem id t m zero f h = absurd (Memᴰ.not-nil h)
of_cut_lem id t m (suc n) f h = at (of_cut_lem id t m n f) (Memᴰ.append_cases (map (segment_frame id t m) (up_to n)) (rw (map-up-to (segment_frame id t m) n) at h))
  where
    at : (Memᴰ f (map (segment_frame id t m) (up_to n)) → OfCut id t m n f)
        → Memᴰ f (map (segment_frame id t m) (up_to n)) ⊎ Memᴰ f (segment_frame id t m n ∷ []) → OfCut id t m (suc n) f
    at below (inl a) = let r = below a in record { index = r.index; below = omega (arith, r.below); is = r.is }
    at below (inr a) = record { index = n; below = omega arith; is = Memᴰ.eq_of_singleton a }

pub in_cut : (id : ℕ) (t : TransactionNumber) (m : List ℕ) (n k : ℕ) → k < n → Memᴰ (segment_frame id t m k) (map (segment_frame id t m) (up_to n))
in_cut id t m zero k h = absurd (omega arith)
in_cut id t m (suc n) k h =
    rw (map-up-to (segment_frame id t m) n)
    (cases (leb n k)
    (λ e. let q : n ≡ k = omega (arith, leb-true n k e) in Memᴰ.append_right (map (segment_frame id t m) (up_to n)) (Memᴰ.head (ap (segment_frame id t m) (sym q))))
    (λ e. Memᴰ.append_left _ (in_cut id t m n k (leb-false n k e))))

-- ---- the number of the segment in a frame, 0 in a Start and in no other

abbrev pub index_at : List ℕ → ℕ
index_at f = cond (is_kind 0 f) 0 (suc (high_bits f - 1))

pub index-at : (id : ℕ) (t : TransactionNumber) (m : List ℕ) (k : ℕ) → index_at (segment_frame id t m k) ≡ k
unfolding segment_frame segment_octets header_of
index-at id t m zero = rw (eq-eqb (4 * seg_n (length m) % 4) 0 (omega arith))
index-at id t m (suc k) = rw (ne_eqb ((4 * suc k + 2) % 4) 0 (omega arith)) (omega arith)

-- those at or after the first Start, as frames and by number
since-index : (fs : List (List ℕ)) → map index_at (frames_since fs) ≡ since_start (map index_at fs)
since-index [] = refl
since-index (f ∷ fs) =
    both (λ t. map index_at (cond t (f ∷ fs) (frames_since fs)) ≡ since_start (cond t 0 (suc (high_bits f - 1)) ∷ map index_at fs)) (is_kind 0 f)
    (λ e. rw e) (λ e. since-index fs)

-- ---- each segment has come, as frames and by number

mem-map : (f : List ℕ) (fs : List (List ℕ)) → Memᴰ f fs → Memᴰ (index_at f) (map index_at fs)
mem-map f [] x' = elim x' [ ]
mem-map f (g ∷ fs) (Memᴰ.head e) = Memᴰ.head (ap index_at e)
mem-map f (g ∷ fs) (Memᴰ.tail h) = Memᴰ.tail (mem-map f fs h)

-- a frame of which a number is the index
record Indexed (k : ℕ) (fs : List (List ℕ)) : Type 0 where
  frame : List ℕ
  among : Memᴰ frame fs
  is : index_at frame ≡ k

map-mem : (k : ℕ) (fs : List (List ℕ)) → Memᴰ k (map index_at fs) → Indexed k fs
map-mem k [] x' = elim x' [ ]
map-mem k (g ∷ fs) (Memᴰ.head e) = record { frame = g; among = Memᴰ.head refl; is = sym e }
map-mem k (g ∷ fs) (Memᴰ.tail h) = let r = map-mem k fs h in record { frame = r.frame; among = Memᴰ.tail r.among; is = r.is }

mem-since : (f : List ℕ) (fs : List (List ℕ)) → Memᴰ f (frames_since fs) → Memᴰ f fs
mem-since f [] = λ h. h
mem-since f (g ∷ fs) = both (λ t. Memᴰ f (cond t (g ∷ fs) (frames_since fs)) → Memᴰ f (g ∷ fs)) (is_kind 0 g)
    (λ e h. h) (λ e h. Memᴰ.tail (mem-since f fs h))

module _ (id : ℕ) (t : TransactionNumber) (m : List ℕ) (fs : List (List ℕ)) where
  pub come-out : AllAmong (message_frames id t m) (frames_since fs) → Each (seg_n (length m)) (since_start (map index_at fs))
  come-out h k b =
      rw (← (since-index fs))
      (rw (index-at id t m k) at (mem-map (segment_frame id t m k) (frames_since fs) (h _ (in_cut id t m (suc (seg_n (length m))) k (omega arith)))))

  pub come-in : ((f : List ℕ) → Memᴰ f fs → Memᴰ f (message_frames id t m)) → Each (seg_n (length m)) (since_start (map index_at fs))
      → AllAmong (message_frames id t m) (frames_since fs)
  come-in of h f a =
      let r = of_cut_lem id t m (suc (seg_n (length m))) f a in
      let w = map-mem r.index (frames_since fs) (rw (since-index fs) (h r.index (omega (arith, r.below)))) in
      let u = of_cut_lem id t m (suc (seg_n (length m))) w.frame (of w.frame (mem-since w.frame fs w.among)) in
      let i : u.index ≡ r.index = sym (index-at id t m u.index) ∙ sym (ap index_at u.is) ∙ w.is in
      rw (r.is, ← i, ← u.is) w.among

-- ---- whose a frame is

-- the link that a Link ID finds has it
pub found-id : (σ : Station) (s id : ℕ) → find σ.links id ≡ Some s → id ≡ (get_link s σ).link.id
unfolding get_link
found-id σ s id e =
    let l = get_or σ.links s no_link in
    sym (eqb-true l.id id (both_hold {a = in_use l.state} {b = eqb l.id id} (found_at σ.links id s e).1).1)

-- the Link ID of a segment's frame
pub frame-id : (id : ℕ) (t : TransactionNumber) (m : List ℕ) (k : ℕ) → link_id (segment_frame id t m k) ≡ id
unfolding segment_frame segment_octets header_of
frame-id id t m zero = id-back id
frame-id id t m (suc k) = id-back id

-- a segment or a Close is for the record that its Link ID finds
pub whose : (end : End) (ls : List Link) (f : List ℕ) (s : ℕ) → is_other (parsed f) ≡ false → addressed end ls (parsed f) ≡ Some s → find ls (link_id f) ≡ Some s
whose end ls f s = of (parsed f) (reads f)
  where
    by-frame : (p : Result Frame FrameRefusal) → IsFrame f p → is_other p ≡ false → addressed end ls p ≡ Some s → find ls (link_id f) ≡ Some s
    by-frame p (start k e) o h = h
    by-frame p (acknowledgement k) o h = h
    by-frame p (continuation k e) o h = h
    by-frame p (opens k e) o h = absurd (false≢true (sym o))
    by-frame p (acks k e) o h = h
    by-frame p (closes k e) o h = h

    of : (p : Result Frame FrameRefusal) → Reads f p → is_other p ≡ false → addressed end ls p ≡ Some s → find ls (link_id f) ≡ Some s
    of p (no-frame m) o h = cc
    of p (unknown m n) o h = cc
    of p (frame m n r) o h = by-frame p r o h

-- the record that a frame is for is the one that it is judged by
pub place-for : (end : End) (ls : List Link) (f : List ℕ) (s : ℕ) → addressed end ls (parsed f) ≡ Some s → place_for end ls f ≡ Some s
place-for end ls f s = of end (parsed f) (reads f)
  where
    by-frame : (end : End) (p : Result Frame FrameRefusal) → IsFrame f p → addressed end ls p ≡ Some s → place_for end ls f ≡ Some s
    by-frame provisioner p (start k e) h = h
    by-frame provisioner p (acknowledgement k) h = h
    by-frame provisioner p (continuation k e) h = h
    by-frame provisioner p (opens k e) h = h
    by-frame provisioner p (acks k e) h = h
    by-frame provisioner p (closes k e) h = h
    by-frame (device own) p (start k e) h = rw k h
    by-frame (device own) p (acknowledgement k) h = rw k h
    by-frame (device own) p (continuation k e) h = rw k h
    by-frame (device own) p (opens k e) h = rw (k, e) h
    by-frame (device own) p (acks k e) h = rw (k, e) h
    by-frame (device own) p (closes k e) h = rw (k, e) h

    of : (end : End) (p : Result Frame FrameRefusal) → Reads f p → addressed end ls p ≡ Some s → place_for end ls f ≡ Some s
    of end p (no-frame m) h = cc
    of end p (unknown m n) h = cc
    of end p (frame m n i) h = by-frame end p i h
