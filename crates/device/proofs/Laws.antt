-- Laws between the definitions of `links` and the calls of a device's one record.
use Prim.Native.Nat.{ℕ, ◌+◌, ◌≤◌}
use Rattle.links.specs.declared.Answer.{Answer}
use Rattle.links.specs.declared.Refusal.{Refusal}
use Rattle.pb_adv.specs.declared.Frame.{Frame}
use Rattle.pb_adv.specs.declared.FrameRefusal.{FrameRefusal}
use Rattle.std.specs.Prelude.{Result, Ok}
use native.Mathlib.Omega.{arith}
use mathlib.Core.Bool.{Bool, true, false, ◌&&◌, not, false≢true}
use mathlib.Core.List.{List, [], ◌∷◌}
use mathlib.Core.Path.{◌≡◌, refl, sym, ap, ◌∙◌}
use lib.Dec.{eqb, leb}
use lib.ListN.{length}
use lib.Seq.{take_all}
use borrow.Author.Tests.{eqb-true, eq-eqb, ne_eqb, leb-true}
use Rattle.octets.specs.Lengths.{is_length}
use Rattle.octets.specs.Parts.{part, same, same_part}
use Rattle.octets.proofs.Parts.{same-part-fits}
use Rattle.octets.proofs.Tests.{cases, both_hold}
use Rattle.pb_adv.specs.Frame.{link_id, kind_of, high_bits, parsed}
use Rattle.pb_adv.specs.Tables.{is_kind, is_control, malformed, body_fits}
use Rattle.pb_adv.specs.declared.Frame.TheVariants as P
use Rattle.pb_adv.proofs.Tables.{IsFrame, start, acknowledgement, continuation, opens, acks, closes, Reads, no-frame, unknown, frame, reads}
use Rattle.links.specs.Links.{device, has_id, in_use}
use Rattle.links.specs.Good.{good, good_link}
use Rattle.links.specs.Station.{Station, get_link, put_link, open_step, is_right, judged, at_record, send_step, local_send, close_step, local_close}
use Rattle.links.specs.Device.{device_of, heard}
use Rattle.links.specs.declared.Side.TheVariants.{Device}
use Rattle.links.specs.declared.Link.{Link}
use Rattle.links.specs.declared.Refusal.TheVariants as R
use Rattle.links.proofs.Device.{get-one, put_one, good-one, find-one, find_none, right-record}
use Rattle.links.proofs.Promises.{open-part}
use Rattle.link_steps.specs.Calls.{one_link, stepped_of, record_stepped, link_received}
use Rattle.link_steps.specs.Steps.{link_refused}
use Rattle.link_steps.proofs.Laws.{received-at, received-nowhere}
use Rattle.device.specs.Calls.{only_socket, record_back}

-- ---- Opens and other frames

module _ (f : List ℕ) where
  -- the UUID of an Open stands in its frame
  pub open-fits : (id uuid : ℕ) → parsed f ≡ Ok (P.Open id uuid) → uuid + 16 ≤ length f
  open-fits id uuid = of (parsed f) (reads f)
    where
      whole : malformed f ≡ false → kind_of f ≡ 3 → high_bits f ≡ 0 → length f ≡ 22
      whole m k h =
          let fits : ((leb 6 (length f) && leb (length f) 29) && body_fits f) ≡ true = not-false _ m in
          eqb-true (length f) 22 (rw (k, h) at (both_hold {a = leb 6 (length f) && leb (length f) 29} {b = body_fits f} fits).1)
        where
          not-false : (b : Bool) → not b ≡ false → b ≡ true
          not-false true e = refl
          not-false false e = absurd (false≢true (sym e))

      by-frame : (p : Result Frame FrameRefusal) → IsFrame f p → malformed f ≡ false → p ≡ Ok (P.Open id uuid) → uuid + 16 ≤ length f
      by-frame p (start k s) m e = let z : ◌≡◌ {A = ℕ} 0 1 = cc in absurd (omega arith)
      by-frame p (acknowledgement k) m e = let z : ◌≡◌ {A = ℕ} 0 1 = cc in absurd (omega arith)
      by-frame p (continuation k h) m e = let z : ◌≡◌ {A = ℕ} 0 1 = cc in absurd (omega arith)
      by-frame p (opens k h) m e = let z : 6 ≡ uuid = cc in omega (arith, whole m k h)
      by-frame p (acks k h) m e = let z : ◌≡◌ {A = ℕ} 0 1 = cc in absurd (omega arith)
      by-frame p (closes k h) m e = let z : ◌≡◌ {A = ℕ} 0 1 = cc in absurd (omega arith)

      of : (p : Result Frame FrameRefusal) → Reads f p → p ≡ Ok (P.Open id uuid) → uuid + 16 ≤ length f
      of p (no-frame m) e = let z : ◌≡◌ {A = ℕ} 0 1 = cc in absurd (omega arith)
      of p (unknown m n) e = let z : ◌≡◌ {A = ℕ} 0 1 = cc in absurd (omega arith)
      of p (frame m n r) e = by-frame p r m e

  -- another kind of frame
  pub not-open : ((id uuid : ℕ) → parsed f ≡ Ok (P.Open id uuid) → ⊥) → malformed f ≡ false → is_control 0 f ≡ false
  not-open h fits = of (parsed f) (reads f) h
    where
      by-frame : (p : Result Frame FrameRefusal) → IsFrame f p → ((id uuid : ℕ) → p ≡ Ok (P.Open id uuid) → ⊥) → is_control 0 f ≡ false
      by-frame p (start k s) h = rw k
      by-frame p (acknowledgement k) h = rw k
      by-frame p (continuation k s) h = rw k
      by-frame p (opens k s) h = absurd (h _ _ refl)
      by-frame p (acks k s) h = rw (k, s)
      by-frame p (closes k s) h = rw (k, s)

      of : (p : Result Frame FrameRefusal) → Reads f p → ((id uuid : ℕ) → p ≡ Ok (P.Open id uuid) → ⊥) → is_control 0 f ≡ false
      of p (no-frame m) h = absurd (false≢true (sym fits ∙ m))
      of p (unknown m n) h =
          let u = both_hold {a = is_kind 3 f} {b = leb 3 (high_bits f)} n in
          rw (u.0, ne_eqb (high_bits f) 0 (λ e. absurd (omega (arith, leb-true 3 (high_bits f) u.1, e))))
      of p (frame m n r) h = by-frame p r h

-- ---- the receiving call

module _ (own : List ℕ) (l : Link) (area f : List ℕ) (uuid : length own ≡ 16) (room : length area ≡ 1469) (link_good : good_link Device l ≡ true) where
  pub right : is_right (device own) (device_of l area) ≡ true
  right = rw (eq-eqb (length area) 1469 room, eq-eqb (length own) 16 uuid)

  state_good : good Device (l ∷ []) ≡ true
  state_good = good-one Device l ∙ link_good

  -- a frame but an Open takes its step at the record
  pub heard-frame : (malformed f ≡ false → is_control 0 f ≡ false) → length (link_received Device (one_link l area) f).1.part ≡ 1469
      → heard own l area f
      ≡ ((link_received Device (one_link l area) f).0, device_of (link_received Device (one_link l area) f).1.link (link_received Device (one_link l area) f).1.part)
  heard-frame other size =
      found
      ∙ rw (get-one l area room) (ap (λ (σ : Station). ((link_received Device (one_link l area) f).0, σ)) (put_one l area room (link_received Device (one_link l area) f).1 size))
    where
      found : heard own l area f
          ≡ ((link_received Device (get_link 0 (device_of l area)) f).0, put_link 0 (link_received Device (get_link 0 (device_of l area)) f).1 (device_of l area))
      found =
          cases (has_id l (link_id f))
          (λ h. received-at (device own) (device_of l area) f right state_good other 0 (omega arith) (find-one l (link_id f) h))
          (λ h. received-nowhere (device own) (device_of l area) f right state_good other 0 (omega arith) (find_none l (link_id f) h))

  -- an Open leaves the area; its record and its answer are the same without it
  open-alike : (id at : ℕ) → stepped_of (open_step own (one_link l area) f id at) ≡ stepped_of (open_step own (one_link l []) f id at)
  unfolding open_step
  open-alike id at =
      cases (same (part f at 16) own)
      (λ e. rw e (cases (in_use l.state) (λ u. rw u (cases (eqb l.id id) (λ q. rw q) (λ q. rw q))) (λ u. rw u)))
      (λ e. rw e)

  pub heard-open : (id at : ℕ) → parsed f ≡ Ok (P.Open id at)
      → heard own l area f ≡ ((open_step own (one_link l []) f id at).0, device_of (open_step own (one_link l []) f id at).1.link area)
  heard-open id at e =
      let r = open_step own (one_link l area) f id at in
      let size : length r.1.part ≡ 1469 = ap length (open-part own (one_link l area) f id at) ∙ room in
      right-record own l area uuid room link_good f
      ∙ rw (e, get-one l area room) (ap (λ (σ : Station). (r.0, σ)) (put_one l area room r.1 size))
      ∙ (λ i. ((open-alike id at i).answer, device_of (open-alike id at i).link (open-part own (one_link l area) f id at i)))

-- the UUID is compared in its place
pub own-compared : (own f : List ℕ) (at : ℕ) → length own ≡ 16 → at + 16 ≤ length f → same_part f at own 0 16 ≡ same (part f at 16) own
own-compared own f at n h = same-part-fits f at own 0 16 h (omega arith) ∙ ap (same (part f at 16)) (take_all 16 own (omega arith))

-- ---- the local calls: 11 and 14, and the step of the record

module _ (l : Link) (step : Result Answer Refusal × Link) where
  pub judged-wrong : record_back (judged Device (l ∷ []) false (at_record (l ∷ []) only_socket step)) ≡ link_refused l R.WrongArgument
  judged-wrong = refl

  pub judged-bad : good_link Device l ≡ false → record_back (judged Device (l ∷ []) true (at_record (l ∷ []) only_socket step)) ≡ link_refused l R.BadState
  judged-bad h = rw (good-one Device l, h)

  pub judged-right : good_link Device l ≡ true → record_back (judged Device (l ∷ []) true (at_record (l ∷ []) only_socket step)) ≡ record_stepped step
  judged-right h = rw (good-one Device l, h)

module _ (l : Link) (n : ℕ) where
  pub sent-as : record_back (local_send Device (l ∷ []) only_socket n) ≡ record_back (judged Device (l ∷ []) (is_length n) (at_record (l ∷ []) only_socket (send_step l n)))
  unfolding local_send
  sent-as = refl

pub closed-as : (l : Link) → record_back (local_close Device (l ∷ []) only_socket) ≡ record_back (judged Device (l ∷ []) true (at_record (l ∷ []) only_socket (close_step Device l)))
unfolding local_close
closed-as l = refl
