-- The two lines that open a link: the opening, and the Ack of its Link ID.
use Prim.Native.Nat.{ℕ, ◌*◌, ◌<◌}
use Rattle.std.specs.Prelude.{Some, Ok}
use mathlib.Core.Bool.{true, false≢true}
use mathlib.Core.List.{List}
use mathlib.Core.Path.{◌≡◌, refl, ap, ◌∙◌}
use lib.ListN.{length, get_or}
use lib.Seq.{get_or-set_same}
use borrow.Author.Tests.{eq-eqb}
use Rattle.hexadecimal.specs.Hex.{octets_of}
use Rattle.transactions.specs.Numbers.{socket_place}
use Rattle.transactions.specs.declared.Socket.{Socket}
use Rattle.pb_adv.specs.Frame.{parsed}
use Rattle.pb_adv.specs.declared.Frame.TheVariants as P
use Rattle.links.specs.Links.{provisioner, blank_with, in_use, find}
use Rattle.links.specs.Segments.{OneLink}
use Rattle.links.specs.Station.{Station, no_link, get_link, put_link, frame_step, received, link_at}
use Rattle.links.specs.declared.Side.TheVariants.{Provisioner}
use Rattle.links.specs.declared.LinkState.{LinkState}
use Rattle.links.specs.declared.LinkState.TheVariants as S
use Rattle.links.specs.declared.Link.{Link}
use Rattle.links.proofs.Lens.{find_at, good-out}
use Rattle.links.proofs.Sockets.{place-below}
use Rattle.import_tray.specs.declared.Step.{Step}
use Rattle.log_lines.specs.Lines.{is_frame}
use Rattle.import_log.specs.Logs.{Import, after}
use Rattle.import_log.specs.Records.{Opens}
use Rattle.import_log.proofs.Operations.{station_in, heard-station, Right}
use Rattle.import_log.proofs.Rows.{opened}
use Rattle.import_log.proofs.Stock.{opened-empty}
use Rattle.import_log.proofs.Waiting.{Waits}

-- ---- the opening

-- a socket that was opened waits
pub opening-waits : (m : Import) → Right (station_in m) → (line : List ℕ) (s : Socket) (id : ℕ) → Opens m line s id → Waits (after m line) s id
opening-waits m g line s id o =
    let links = m.log.tray.links in
    let w = opened m line s id o in
    let l : link_at (after m line).log.tray.links s ≡ blank_with Provisioner S.Opening id =
    ap (λ (x : Step). link_at x.tray.links s) w.1 ∙ get_or-set_same links (socket_place s) _ no_link (place-below s (length links) w.0) in
    record {
      numbered = rw g.count at w.0;
      used = ap (λ (k : Link). in_use k.state) l;
      has_id = ap (λ (k : Link). k.id) l;
      last = ap (λ (k : Link). k.last) l;
      half = ap (λ (k : Link). k.half) l;
      no_record = opened-empty m line s id o;
    }

-- ---- the Ack

acked : (x : OneLink) (state : LinkState) → x.link.state ≡ state → in_use state ≡ true → (f : List ℕ) (id : ℕ)
    → (frame_step Provisioner x state f (Ok (P.Ack id))).1.link.state ≡ S.Open
unfolding frame_step
acked x S.Free z e f id = absurd (false≢true e)
acked x S.Opening z e f id = refl
acked x S.Open z e f id = z

module _ (σ : Station) (g : Right σ) (s id : ℕ) (below : s < 8)
    (used : in_use (get_or σ.links s no_link).state ≡ true) (has_id : (get_or σ.links s no_link).id ≡ id) where
  found : find σ.links id ≡ Some s
  found = find_at σ.links id s (good-out Provisioner σ.links g.is_good).1 (rw g.count below) (rw (used, has_id) (eq-eqb id id refl))

  ack-opens : (f : List ℕ) → parsed f ≡ Ok (P.Ack id) → (get_or (received provisioner σ f).1.links s no_link).state ≡ S.Open
  unfolding received get_link put_link
  ack-opens f e =
      rw (eq-eqb (length σ.area) (1469 * length σ.links) g.sized, g.is_good, e, found)
      (ap (λ (l : Link). l.state) (get_or-set_same σ.links s _ no_link (rw g.count below)) ∙ acked (get_link s σ) _ refl used f id)

-- after the Ack of its Link ID a socket that waits is open
pub ack-line : (m : Import) → Right (station_in m) → (s : Socket) (id : ℕ) → Waits m s id → (line : List ℕ) → is_frame line ≡ true
    → parsed (octets_of line) ≡ Ok (P.Ack id) → (link_at (after m line).log.tray.links s).state ≡ S.Open
ack-line m g s id w line p e =
    ap (λ (τ : Station). (link_at τ.links s).state) (heard-station m line p)
    ∙ ack-opens (station_in m) g (socket_place s) id (place-below s 8 w.numbered) w.used w.has_id (octets_of line) e
