-- Document 01's receiving table, with request [1]'s rows of it, and the tables of the local calls (`specs/Tables.antt`).
use Prim.Native.Nat.{ℕ, ◌*◌, ◌<◌}
use Rattle.pb_adv.specs.declared.Frame.{Frame}
use Rattle.pb_adv.specs.declared.FrameRefusal.{FrameRefusal}
use Rattle.std.specs.Prelude.{Option, Some, None, Result, Ok}
use native.Mathlib.Omega.{arith}
use mathlib.Core.Bool.{Bool, true, false, ◌&&◌, ◌||◌, cond, not, false≢true}
use mathlib.Core.List.{List, [], ◌∷◌}
use mathlib.Core.Option.{some}
use mathlib.Core.Path.{◌≡◌, refl, sym, ap, ◌∙◌, subst}
use lib.Dec.{eqb}
use lib.ListN.{length, get_or, set}
use Rattle.octets.specs.Numbers.{Octets}
use Rattle.octets.specs.Parts.{part, same}
use Rattle.octets.specs.Tables.{Row, refusal, first_of}
use Rattle.octets.proofs.Tests.{cases, both_hold}
use Rattle.octets.proofs.Tables.{by-table}
use Rattle.octets.specs.Lengths.{is_length}
use Rattle.transactions.specs.Numbers.{is_socket, socket_place}
use Rattle.pb_adv.specs.Frame.{link_id, kind_of, high_bits, parsed}
use Rattle.pb_adv.specs.Tables.{is_control, malformed, unknown_opcode}
use Rattle.pb_adv.specs.declared.Frame.TheVariants as P
use Rattle.pb_adv.proofs.Tables.{IsFrame, start, acknowledgement, continuation, opens, acks, closes, Reads, no-frame, unknown, frame, reads}
use Rattle.transactions.specs.declared.Socket.{Socket}
use Rattle.links.specs.Links.{End, provisioner, device, side_of, in_use, find, told}
use Rattle.links.specs.Good.{good_link, good}
use Rattle.links.specs.Segments.{OneLink}
use Rattle.links.specs.Station.{Station, no_link, get_link, put_link, link_at, is_found, at_socket, open_step, on_frame, is_right, received, local_open, local_send, local_close}
use Rattle.links.specs.Tables.{wrong_argument, is_free, is_id_in_use, is_device_open, unknown_link, place_for, link_found, other_uuid, is_busy, is_opening, receiving_rows, ReceivingTable, leaves, ReceivingLeaves, open_rows, send_rows, close_rows, OpenTables, LocalTables}
use Rattle.links.specs.declared.Side.{Side}
use Rattle.links.specs.declared.Side.TheVariants.{Provisioner, Device}
use Rattle.links.specs.declared.LinkState.{LinkState}
use Rattle.links.specs.declared.LinkState.TheVariants as S
use Rattle.links.specs.declared.Link.{Link}
use Rattle.links.proofs.Lens.{right-sized, right-one, put-get, found_at, good-get}
use Rattle.links.proofs.Local.{open-calls, send-calls, close-calls, written-by}
use Rattle.links.proofs.Bad.{blank-said}
use Rattle.links.proofs.Leaves.{frame-leaves, open-leaves}
use Rattle.links.proofs.Keep.{good-as}
use Rattle.links.proofs.Rows.{use-free, open-others, found_from, link_rows, control-open, at-state}

-- ---- the call

-- a frame goes to the record of its Link ID, but for the Opens that come to a device
pub goes : (end : End) (σ : Station) (f : List ℕ) (p : Result Frame FrameRefusal) → IsFrame f p → is_device_open end f ≡ false
    → on_frame end σ f p ≡ at_socket (side_of end) σ (find σ.links (link_id f)) f p
goes end σ f p (start k s) d = refl
goes end σ f p (acknowledgement k) d = refl
goes end σ f p (continuation k h) d = refl
goes provisioner σ f p (opens k h) d = refl
goes (device own) σ f p (opens k h) d = absurd (false≢true (sym d ∙ control-open f k h))
goes end σ f p (acks k h) d = refl
goes end σ f p (closes k h) d = refl

-- an Open that comes to a device is judged by its one record
data AtDevice (own : List ℕ) (f : List ℕ) : Result Frame FrameRefusal → Type 0 where
  an_open : kind_of f ≡ 3 → high_bits f ≡ 0 → AtDevice own f (Ok (P.Open (link_id f) 6))
  another : {p : Result Frame FrameRefusal} → is_control 0 f ≡ false → AtDevice own f p

at-device : (own f : List ℕ) (p : Result Frame FrameRefusal) → IsFrame f p → AtDevice own f p
at-device own f p (start k s) = another (rw k)
at-device own f p (acknowledgement k) = another (rw k)
at-device own f p (continuation k h) = another (rw k)
at-device own f p (opens k h) = an_open k h
at-device own f p (acks k h) = another (rw (k, h))
at-device own f p (closes k h) = another (rw (k, h))

-- the rows from 15 on
abbrev frame_rows : End → Station → OneLink → List ℕ → List Row
frame_rows end σ x f =
    refusal 15 (other_uuid end f) ∷ refusal 16 (is_busy end x.link f) ∷ refusal 3 (unknown_link end σ f) ∷ link_rows (side_of end) x x.link.state f

-- 15 and 16 are for an Open
skips : (own : List ℕ) (σ : Station) (x : OneLink) (f : List ℕ) → is_control 0 f ≡ false
    → first_of (frame_rows (device own) σ x f) ≡ first_of (refusal 3 (not (is_id_in_use σ.links (link_id f))) ∷ link_rows Device x x.link.state f)
skips own σ x f e =
    by (is_control 0 f) e (not (same (part f 6 16) own)) (not (is_free x.link.state) && not (eqb x.link.id (link_id f))) (not (is_id_in_use σ.links (link_id f)))
    (link_rows Device x x.link.state f)
  where
    by : (b : Bool) → b ≡ false → (u v w : Bool) (rest : List Row)
        → first_of (refusal 15 (b && u) ∷ refusal 16 (b && v) ∷ refusal 3 (not b && w) ∷ rest) ≡ first_of (refusal 3 w ∷ rest)
    by b e u v w rest = rw e

-- at a device, an Open
open-rows : (own : List ℕ) (σ : Station) (x : OneLink) (f : List ℕ) → kind_of f ≡ 3 → high_bits f ≡ 0 → good_link Device x.link ≡ true
    → first_of (frame_rows (device own) σ x f) ≡ some (told (open_step own x f (link_id f) 6).0)
unfolding open_step
open-rows own σ x f k h link_good = of x.link.state refl
  where
    of : (state : LinkState) → x.link.state ≡ state → first_of (frame_rows (device own) σ x f) ≡ some (told (open_step own x f (link_id f) 6).0)
    of S.Free e = cases (same (part f 6 16) own) (λ u. rw (k, h, u, e)) (λ u. rw (k, h, u))
    of S.Opening e = absurd (false≢true (good-as Device x.link e link_good))
    of S.Open e = cases (same (part f 6 16) own) (λ u. cases (eqb x.link.id (link_id f)) (λ q. rw (k, h, u, e, q)) (λ q. rw (k, h, u, e, q))) (λ u. rw (k, h, u))

wrong-right : (end : End) (σ : Station) → wrong_argument end σ ≡ not (is_right end σ)
wrong-right provisioner σ = refl
wrong-right (device own) σ =
    cases (eqb (length σ.area) (1469 * length σ.links))
    (λ a. rw a (cases (eqb (length σ.links) 1) (λ b. rw b) (λ b. rw b)))
    (λ a. rw a)

module _ (end : End) (σ : Station) (f : List ℕ) (o : Octets f) (state_good : good (side_of end) σ.links ≡ true) where
  -- by the record that its Link ID finds
  at-found : (found : Option ℕ) → find σ.links (link_id f) ≡ found → is_device_open end f ≡ false → (p : Result Frame FrameRefusal) → IsFrame f p
      → first_of (refusal 3 (not (is_found found)) ∷ link_rows (side_of end) (link_found σ found) (link_found σ found).link.state f) ≡ some (told (at_socket (side_of end) σ found f p).0)
  unfolding get_link
  at-found None e d p r = refl
  at-found (Some s) e d p r =
      let w = found_at σ.links (link_id f) s e in
      at-state end (get_link s σ) (good-get (side_of end) σ s state_good w.0) f o d (get_link s σ).link.state refl
      (both_hold {a = in_use (get_or σ.links s no_link).state} {b = eqb (get_or σ.links s no_link).id (link_id f)} w.1).0 p r

by-frame : (end : End) (σ : Station) (f : List ℕ) → Octets f → is_right end σ ≡ true → good (side_of end) σ.links ≡ true → (p : Result Frame FrameRefusal) → IsFrame f p
    → first_of (frame_rows end σ (link_found σ (place_for end σ.links f)) f) ≡ some (told (on_frame end σ f p).0)
by-frame provisioner σ f o right g p r =
    rw (goes provisioner σ f p r refl, ← (found_from 0 σ.links (link_id f))) (at-found provisioner σ f o g (find σ.links (link_id f)) refl refl p r)
by-frame (device own) σ f o right g p r = of p r (at-device own f p r)
  where
    -- by the record that it is judged by
    judged : (p : Result Frame FrameRefusal) {b : Bool} → is_control 0 f ≡ b
        → first_of (frame_rows (device own) σ (link_found σ (cond b (Some 0) (find σ.links (link_id f)))) f) ≡ some (told (on_frame (device own) σ f p).0)
        → first_of (frame_rows (device own) σ (link_found σ (place_for (device own) σ.links f)) f) ≡ some (told (on_frame (device own) σ f p).0)
    judged p d h =
        subst (λ (b : Bool). first_of (frame_rows (device own) σ (link_found σ (cond b (Some 0) (find σ.links (link_id f)))) f) ≡ some (told (on_frame (device own) σ f p).0)) (sym d) h

    of : (p : Result Frame FrameRefusal) → IsFrame f p → AtDevice own f p
        → first_of (frame_rows (device own) σ (link_found σ (place_for (device own) σ.links f)) f) ≡ some (told (on_frame (device own) σ f p).0)
    of p r (an_open k h) =
        judged p (control-open f k h) (open-rows own σ (get_link 0 σ) f k h (good-get Device σ 0 g (omega (arith, right-one own σ right))))
    of p r (another d) =
        judged p d (skips own σ (link_found σ (find σ.links (link_id f))) f d
        ∙ rw (goes (device own) σ f p r d, ← (found_from 0 σ.links (link_id f))) (at-found (device own) σ f o g (find σ.links (link_id f)) refl d p r))

module _ (end : End) (σ : Station) (f : List ℕ) (o : Octets f) where
  by-reads : is_right end σ ≡ true → good (side_of end) σ.links ≡ true → (p : Result Frame FrameRefusal) → Reads f p
      → first_of (refusal 1 (malformed f) ∷ refusal 2 (unknown_opcode f) ∷ frame_rows end σ (link_found σ (place_for end σ.links f)) f) ≡ some (told (on_frame end σ f p).0)
  by-reads right g p (no-frame m) = rw m
  by-reads right g p (unknown m n) = rw (m, n)
  by-reads right g p (frame m n r) = rw (m, n) (by-frame end σ f o right g p r)

  first-row : first_of (receiving_rows end σ f) ≡ some (told (received end σ f).0)
  unfolding received
  first-row =
      rw (wrong-right end σ) (cases (is_right end σ)
      (λ e. rw e (cases (good (side_of end) σ.links) (λ g. rw g (by-reads e g (parsed f) (reads f))) (λ g. rw g)))
      (λ e. rw e))

-- THE RECEIVING TABLE
pub receiving-table : ReceivingTable received
receiving-table end σ f o = by-table (told (received end σ f).0) (receiving_rows end σ f) refl (first-row end σ f o)

-- ---- what it leaves

module _ (end : End) (σ : Station) (f : List ℕ) (right : is_right end σ ≡ true) (state_good : good (side_of end) σ.links ≡ true) where
  unchanged : (s : ℕ) → s < length σ.links → σ ≡ put_link s (get_link s σ) σ
  unchanged s below = sym (put-get s σ (omega (arith, right-sized end σ right)))

  -- of the record that its Link ID finds
  found-leaves : (s : ℕ) → find σ.links (link_id f) ≡ Some s → is_device_open end f ≡ false → (p : Result Frame FrameRefusal) → IsFrame f p
      → (on_frame end σ f p).1 ≡ put_link s (leaves (side_of end) (get_link s σ) f (on_frame end σ f p).0) σ
  found-leaves s at d p r =
      rw (goes end σ f p r d, at) (ap (λ (y : OneLink). put_link s y σ)
      (frame-leaves (side_of end) (get_link s σ) f (get_link s σ).link.state (good-get (side_of end) σ s state_good (found_at σ.links (link_id f) s at).0) p r))

frame-left : (end : End) (σ : Station) (f : List ℕ) → is_right end σ ≡ true → good (side_of end) σ.links ≡ true → (s : ℕ) → place_for end σ.links f ≡ Some s
    → (p : Result Frame FrameRefusal) → IsFrame f p → (on_frame end σ f p).1 ≡ put_link s (leaves (side_of end) (get_link s σ) f (on_frame end σ f p).0) σ
frame-left provisioner σ f right g s at p r = found-leaves provisioner σ f right g s at refl p r
frame-left (device own) σ f right g s at p r = of p r (at-device own f p r)
  where
    of : (p : Result Frame FrameRefusal) → IsFrame f p → AtDevice own f p
        → (on_frame (device own) σ f p).1 ≡ put_link s (leaves Device (get_link s σ) f (on_frame (device own) σ f p).0) σ
    of p r (an_open k h) =
        let q : Some 0 ≡ Some s = rw (control-open f k h) at at in
        let z : 0 ≡ s = cc in
        rw (← z) (ap (λ (y : OneLink). put_link 0 y σ) (open-leaves own (get_link 0 σ) f))
    of p r (another d) = found-leaves (device own) σ f right g s (rw d at at) d p r

place-below : (end : End) (σ : Station) (f : List ℕ) → is_right end σ ≡ true → (s : ℕ) → place_for end σ.links f ≡ Some s → s < length σ.links
place-below provisioner σ f right s at = (found_at σ.links (link_id f) s at).0
place-below (device own) σ f right s at =
    cases (is_control 0 f)
    (λ e. let q : Some 0 ≡ Some s = rw e at at in let z : 0 ≡ s = cc in omega (arith, right-one own σ right, z))
    (λ e. (found_at σ.links (link_id f) s (rw e at at)).0)

pub receiving-leaves : ReceivingLeaves
unfolding received
receiving-leaves end σ f right state_good s at = rw (right, state_good) (of (parsed f) (reads f))
  where
    of : (p : Result Frame FrameRefusal) → Reads f p → (on_frame end σ f p).1 ≡ put_link s (leaves (side_of end) (get_link s σ) f (on_frame end σ f p).0) σ
    of p (no-frame m) = unchanged end σ f right state_good s (place-below end σ f right s at)
    of p (unknown m n) = unchanged end σ f right state_good s (place-below end σ f right s at)
    of p (frame m n r) = frame-left end σ f right state_good s at p r

-- ---- the local calls

module _ (side : Side) (ls : List Link) (s : Socket) where
  open-first : (id : ℕ) → first_of (open_rows side ls s id) ≡ some (told (local_open side ls s id).0)
  unfolding local_open
  open-first id =
      cases (is_socket s (length ls))
      (λ r. rw r (cases (good side ls)
      (λ g. rw (g, use-free (link_at ls s).state, found_from 0 ls id) (cases (is_free (link_at ls s).state) (λ e. rw e (cases (is_id_in_use ls id) (λ u. rw u) (λ u. rw u))) (λ e. rw e)))
      (λ g. rw g)))
      (λ r. rw r)

  send-first : (n : ℕ) → first_of (send_rows side ls s n) ≡ some (told (local_send side ls s n).0)
  unfolding local_send
  send-first n =
      cases (is_socket s (length ls))
      (λ r. rw r (cases (is_length n)
      (λ r. rw r (cases (good side ls)
      (λ g. rw (g, open-others (link_at ls s).state) (cases (is_free (link_at ls s).state || is_opening (link_at ls s).state)
      (λ e. rw e) (λ e. rw e (cases (link_at ls s).outstanding (λ u. rw u) (λ u. rw u)))))
      (λ g. rw g)))
      (λ r. rw r)))
      (λ r. rw r)

  close-first : first_of (close_rows side ls s) ≡ some (told (local_close side ls s).0)
  unfolding local_close
  close-first =
      cases (is_socket s (length ls))
      (λ r. rw r (cases (good side ls) (λ g. rw (g, use-free (link_at ls s).state) (cases (is_free (link_at ls s).state) (λ e. rw e) (λ e. rw e))) (λ g. rw g)))
      (λ r. rw r)

pub open-tables : (ls : List Link) (s : Socket) → OpenTables ls s
open-tables ls s = record {
  opening = λ id. by-table (told (local_open Provisioner ls s id).0) (open_rows Provisioner ls s id) refl (open-first Provisioner ls s id);
  opened = λ id h. written-by Provisioner ls s (open-calls Provisioner ls s id) "done" [] h ∙ ap (set ls (socket_place s)) (blank-said Provisioner S.Opening id);
}

pub local-tables : (side : Side) (ls : List Link) (s : Socket) → LocalTables side ls s
local-tables side ls s = record {
  sending = λ n. by-table (told (local_send side ls s n).0) (send_rows side ls s n) refl (send-first side ls s n);
  closing = by-table (told (local_close side ls s).0) (close_rows side ls s) refl (close-first side ls s);
  sent = λ n. written-by side ls s (send-calls side ls s n) "sending";
  closed = λ h. written-by side ls s (close-calls side ls s) "done" [] h ∙ ap (set ls (socket_place s)) (blank-said side S.Free 0);
}
