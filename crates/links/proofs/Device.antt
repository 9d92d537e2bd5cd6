-- A device's end (`specs/Device.antt`): a station of one record, and what comes to it.
use Prim.Native.Nat.{ℕ, zero, suc, ◌+◌, ◌*◌, ◌<◌}
use Rattle.links.specs.declared.Answer.{Answer}
use Rattle.links.specs.declared.Refusal.{Refusal}
use Rattle.pb_adv.specs.declared.Frame.{Frame}
use Rattle.pb_adv.specs.declared.FrameRefusal.{FrameRefusal}
use Rattle.std.specs.Prelude.{Some, None, Result, Ok, Err}
use native.Mathlib.Omega.{arith}
use mathlib.Core.Bool.{true, false, false≢true}
use mathlib.Core.List.{List, [], ◌∷◌, ◌++◌, append-nil}
use mathlib.Core.Logic.{◌≢◌, ◌⊎◌, inl, inr}
use mathlib.Core.Path.{◌≡◌, refl, sym, ap, ◌∙◌}
use lib.Dec.{eqb, leb}
use lib.ListN.{length, get_or, drop, drop_of_length-le}
use lib.Seq.{take_all}
use borrow.Author.Tests.{eqb-true, eq-eqb, ne_eqb, leb-true}
use Rattle.octets.specs.Parts.{part, write, same}
use Rattle.octets.proofs.Parts.{same-exactly}
use Rattle.octets.proofs.Tests.{cases, both_hold}
use Rattle.pb_adv.specs.Frame.{link_id, kind_of, high_bits, parsed}
use Rattle.pb_adv.specs.Tables.{is_kind, is_control, malformed}
use Rattle.pb_adv.specs.declared.Frame.TheVariants as P
use Rattle.pb_adv.proofs.Tables.{IsFrame, start, acknowledgement, continuation, opens, acks, closes, Reads, no-frame, unknown, frame, reads}
use Rattle.links.specs.Links.{device, has_id, find_from, find, in_use}
use Rattle.links.specs.Good.{good_as, good_link, good}
use Rattle.links.specs.Bad.{blank_record}
use Rattle.links.specs.Segments.{OneLink}
use Rattle.links.specs.Station.{Station, get_link, put_link, frame_step, open_step, on_frame, received}
use Rattle.links.specs.Demand2.{IsOpen}
use Rattle.links.specs.Device.{device_of, heard, refuses, Session, DevicesEnd}
use Rattle.links.specs.declared.Side.{Side}
use Rattle.links.specs.declared.Side.TheVariants.{Device}
use Rattle.links.specs.declared.LinkState.{LinkState}
use Rattle.links.specs.declared.LinkState.TheVariants as S
use Rattle.links.specs.declared.Link.{Link}
use Rattle.links.specs.declared.Refusal.TheVariants as R
use Rattle.links.specs.declared.Answer.TheVariants as A
use Rattle.links.proofs.Bad.{blank-said, good-by-state}

-- ---- a station of one record

module _ (l : Link) (area : List ℕ) (room : length area ≡ 1469) where
  pub get-one : get_link 0 (device_of l area) ≡ record { link = l; part = area }
  unfolding get_link
  get-one = λ i. record { link = l; part = take_all 1469 area (omega arith) i }

  pub put_one : (x : OneLink) → length x.part ≡ 1469 → put_link 0 x (device_of l area) ≡ device_of x.link x.part
  unfolding put_link write
  put_one x e =
      let none : drop (1469 * 0 + length x.part) area ≡ [] = drop_of_length-le area {i = 1469 * 0 + length x.part} (omega arith) in
      ap (λ (rest : List ℕ). device_of x.link (x.part ++ rest)) none ∙ ap (device_of x.link) (append-nil x.part)

pub good-one : (side : Side) (l : Link) → good side (l ∷ []) ≡ good_link side l
unfolding good
good-one side l = cases (good_link side l) (λ e. rw e) (λ e. rw e)

pub find-one : (l : Link) (id : ℕ) → has_id l id ≡ true → find (l ∷ []) id ≡ Some 0
unfolding find_from
find-one l id e = rw e

pub find_none : (l : Link) (id : ℕ) → has_id l id ≡ false → find (l ∷ []) id ≡ None
unfolding find_from
find_none l id e = rw e

-- ---- 11 and 14

module _ (own : List ℕ) (l : Link) (area : List ℕ) where
  pub wrong-area : length area ≢ 1469 → (f : List ℕ) → heard own l area f ≡ refuses own l area R.WrongArgument
  unfolding received
  wrong-area h f = rw (ne_eqb (length area) 1469 h)

  pub wrong-uuid : length own ≢ 16 → (f : List ℕ) → heard own l area f ≡ refuses own l area R.WrongArgument
  unfolding received
  wrong-uuid h f = cases (eqb (length area) 1469) (λ e. rw (e, ne_eqb (length own) 16 h)) (λ e. rw e)

  module _ (uuid : length own ≡ 16) (room : length area ≡ 1469) where
    pub bad-record : good_link Device l ≡ false → (f : List ℕ) → heard own l area f ≡ refuses own l area R.BadState
    unfolding received
    bad-record h f = rw (eq-eqb (length area) 1469 room, eq-eqb (length own) 16 uuid, good-one Device l, h)

    -- past them
    pub right-record : good_link Device l ≡ true → (f : List ℕ) → heard own l area f ≡ on_frame (device own) (device_of l area) f (parsed f)
    unfolding received
    right-record h f = rw (eq-eqb (length area) 1469 room, eq-eqb (length own) 16 uuid, good-one Device l, h)

-- ---- control frames by their octets

-- what one says: 0 Open, 1 Ack, 2 Close
abbrev said : List ℕ → ℕ → Result Frame FrameRefusal
said f zero = Ok (P.Open (link_id f) 6)
said f (suc zero) = Ok (P.Ack (link_id f))
said f (suc (suc n)) = Ok (P.Close (link_id f) (get_or f 6 0))

control-parsed : (f : List ℕ) (opcode : ℕ) → opcode < 3 → malformed f ≡ false → is_control opcode f ≡ true → parsed f ≡ said f opcode
control-parsed f opcode few fits is = of (parsed f) (reads f)
  where
    parts : (is_kind 3 f ≡ true) × (eqb (high_bits f) opcode ≡ true)
    parts = both_hold is

    kind : kind_of f ≡ 3
    kind = eqb-true (kind_of f) 3 parts.0

    high : high_bits f ≡ opcode
    high = eqb-true (high_bits f) opcode parts.1

    by-frame : (p : Result Frame FrameRefusal) → IsFrame f p → p ≡ said f opcode
    by-frame p (start k s) = absurd (omega (arith, k, kind))
    by-frame p (acknowledgement k) = absurd (omega (arith, k, kind))
    by-frame p (continuation k h) = absurd (omega (arith, k, kind))
    by-frame p (opens k h) = ap (said f) (sym h ∙ high)
    by-frame p (acks k h) = ap (said f) (sym h ∙ high)
    by-frame p (closes k h) = ap (said f) (sym h ∙ high)

    of : (p : Result Frame FrameRefusal) → Reads f p → p ≡ said f opcode
    of p (no-frame m) = absurd (false≢true (sym fits ∙ m))
    of p (unknown m n) = absurd (omega (arith, leb-true 3 (high_bits f) (both_hold {a = is_kind 3 f} {b = leb 3 (high_bits f)} n).1, high))
    of p (frame m n r) = by-frame p r

-- ---- what an Open does, and an Ack

module _ (own : List ℕ) (l : Link) (area : List ℕ) (s : Session own l area) where
  link_good : good_link Device l ≡ true
  link_good = good-by-state Device l l.state refl s.not_bad

  abbrev here : OneLink
  here = record { link = l; part = area }

  past : (f : List ℕ) → heard own l area f ≡ on_frame (device own) (device_of l area) f (parsed f)
  past f = right-record own l area s.uuid s.room link_good f

  -- a step that leaves the part
  stored : (m : Link) → put_link 0 (record { link = m; part = area }) (device_of l area) ≡ device_of m area
  stored m = put_one l area s.room (record { link = m; part = area }) s.room

  -- an Open takes its step at the one record
  opening-step : (id : ℕ) (uuid f : List ℕ) → IsOpen id uuid f → (a : Result Answer Refusal) (m : Link) → open_step own here f (link_id f) 6 ≡ (a, record { link = m; part = area })
      → heard own l area f ≡ (a, device_of m area)
  opening-step id uuid f i a m e =
      past f ∙ rw (control-parsed f 0 (omega arith) i.fits i.opcode, get-one l area s.room, e) (ap (λ (σ : Station). (a, σ)) (stored m))

  own-uuid : (id : ℕ) (f : List ℕ) → IsOpen id own f → same (part f 6 16) own ≡ true
  own-uuid id f i = (same-exactly (part f 6 16) own).1 i.has_uuid

  opened : l.state ≡ S.Free → (id : ℕ) (f : List ℕ) → IsOpen id own f → heard own l area f ≡ (Ok A.Opened, device_of (blank_record Device S.Open id) area)
  unfolding open_step
  opened e id f i =
      opening-step id own f i (Ok A.Opened) (blank_record Device S.Open id)
      (rw (own-uuid id f i, e, i.has_id, blank-said Device S.Open id))

  already : l.state ≡ S.Open → (f : List ℕ) → IsOpen l.id own f → heard own l area f ≡ (Ok A.Already, device_of l area)
  unfolding open_step
  already e f i = opening-step l.id own f i (Ok A.Already) l (rw (own-uuid l.id f i, e, i.has_id, eq-eqb l.id l.id refl))

  busy : l.state ≡ S.Open → (id : ℕ) → id ≢ l.id → (f : List ℕ) → IsOpen id own f → heard own l area f ≡ refuses own l area R.Busy
  unfolding open_step
  busy e id d f i = opening-step id own f i (Err R.Busy) l (rw (own-uuid id f i, e, i.has_id, ne_eqb l.id id (λ q. d (sym q))))

  other : (id : ℕ) (uuid : List ℕ) → uuid ≢ own → (f : List ℕ) → IsOpen id uuid f → heard own l area f ≡ refuses own l area R.OtherUuid
  unfolding open_step
  other id uuid d f i =
      opening-step id uuid f i (Err R.OtherUuid) l
      (cases (same (part f 6 16) own) (λ e. absurd (d (sym i.has_uuid ∙ (same-exactly (part f 6 16) own).0 e))) (λ e. rw e))

  -- an Ack takes its step at the record, if it is for it
  ack : l.state ≡ S.Open → (f : List ℕ) → malformed f ≡ false → is_control 1 f ≡ true → link_id f ≡ l.id → heard own l area f ≡ refuses own l area R.WrongDirection
  unfolding frame_step
  ack e f m c q =
      let found = find-one l (link_id f) (rw (e, q) (eq-eqb l.id l.id refl)) in
      let step : frame_step Device here l.state f (Ok (P.Ack (link_id f))) ≡ (Err R.WrongDirection, here) =
      ap (λ (state : LinkState). frame_step Device here state f (Ok (P.Ack (link_id f)))) e in
      past f ∙ rw (control-parsed f 1 (omega arith) m c, found, get-one l area s.room, step) (ap (λ (σ : Station). (Err R.WrongDirection, σ)) (stored l))

  elsewhere : (f : List ℕ) → malformed f ≡ false → is_control 1 f ≡ true → (l.state ≡ S.Free) ⊎ (link_id f ≢ l.id) → heard own l area f ≡ refuses own l area R.UnknownLink
  elsewhere f m c h = past f ∙ rw (control-parsed f 1 (omega arith) m c, find_none l (link_id f) (of h))
    where
      of : (l.state ≡ S.Free) ⊎ (link_id f ≢ l.id) → has_id l (link_id f) ≡ false
      of (inl e) = rw e
      of (inr d) = rw (ne_eqb l.id (link_id f) (λ q. d (sym q))) (cases (in_use l.state) (λ e. rw e) (λ e. rw e))

-- a record that is opening
opening-bad : (l : Link) → l.state ≡ S.Opening → good_link Device l ≡ false
opening-bad l e = ap (λ (state : LinkState). good_as Device state l) e

-- A DEVICE'S END
pub devices-end : DevicesEnd
devices-end = record {
  hears = λ own l area s. record {
    opened = opened own l area s;
    already = already own l area s;
    busy = busy own l area s;
    other = other own l area s;
    ack = ack own l area s;
    elsewhere = elsewhere own l area s;
  };
  opening = λ own l area uuid room e f. bad-record own l area uuid room (opening-bad l e) f;
  wrong-area = wrong-area;
  wrong-uuid = wrong-uuid;
}
