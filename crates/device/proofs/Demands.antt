-- The demands of a device's end (`specs/Demands.antt`), from those over either end.
use Prim.Native.Nat.{ℕ}
use native.Mathlib.Omega.{arith}
use mathlib.Core.Bool.{true}
use mathlib.Core.List.{List, [], ◌∷◌}
use mathlib.Core.Path.{◌≡◌, refl, ap, ◌∙◌}
use lib.ListN.{length, get_or}
use Rattle.transactions.specs.Numbers.{is_socket, socket_place}
use Rattle.transactions.specs.declared.Socket.{Socket}
use Rattle.links.specs.Links.{device, in_use}
use Rattle.links.specs.Good.{good, good_link}
use Rattle.links.specs.Station.{no_link, get_link, is_right, link_at, local_send, local_close}
use Rattle.links.specs.Demand3.{Message, ReadyFor, Ready}
use Rattle.links.specs.Device.{device_of, heard, Session}
use Rattle.links.specs.declared.Side.TheVariants.{Device}
use Rattle.links.specs.declared.Link.{Link}
use Rattle.links.proofs.Bad.{good-by-state}
use Rattle.links.proofs.Halves.{ready_for}
use Rattle.links.proofs.Sockets.{place-below}
use Rattle.links.proofs.Device.{good-one}
use Rattle.links.proofs.Local.{send-count, close-count}
use Rattle.links.proofs.Promises.{receiving-keeps-count}
use Rattle.links.proofs.Tables.{receiving-table, local-tables}
use Rattle.links.proofs.Back.{back}
use Rattle.links.proofs.Only.{only}
use Rattle.links.proofs.Opened.{opened-since}
use Rattle.links.proofs.Demand3.{demand3}
use Rattle.device.specs.Calls.{only_socket}
use Rattle.device.specs.Demands.{Demands}
use Rattle.device.proofs.Laws.{right}

module _ (own : List ℕ) (l : Link) (area : List ℕ) where
  module _ (s : Session own l area) where
    is-good : good_link Device l ≡ true
    is-good = good-by-state Device l l.state refl s.not_bad

    is_right_lem : is_right (device own) (device_of l area) ≡ true
    is_right_lem = right own l area [] s.uuid s.room is-good

    not-bad : good Device (l ∷ []) ≡ true
    not-bad = good-one Device l ∙ is-good

    -- the one socket
    at_first : (m : Message) → ReadyFor Device l m → (w : Socket) → is_socket w 1 ≡ true → Ready Device (link_at (l ∷ []) w) m
    at_first m a w e =
        let p : 0 ≡ socket_place w = omega (arith, place-below w 1 e) in
        rw (← p) (ready_for Device l m a)

-- a session stays one record
one-record : (ls : List Link) → length ls ≡ 1 → get_or ls 0 no_link ∷ [] ≡ ls
one-record [] e = absurd (omega arith)
one-record (l ∷ []) e = refl
one-record (l ∷ (m ∷ ls)) e = absurd (omega arith)

pub demands : (own : List ℕ) (l : Link) (area : List ℕ) → Demands own l area
unfolding get_link
demands own l area = record {
  heard-back = λ f o. λ i. (
    (heard own l area f).0,
    record { links = one-record (heard own l area f).1.links (receiving-keeps-count (device own) (device_of l area) f) i; area = (heard own l area f).1.area },
  );
  sent_back = λ n. λ i. ((local_send Device (l ∷ []) only_socket n).0, one-record (local_send Device (l ∷ []) only_socket n).1 (send-count Device (l ∷ []) only_socket n) i);
  closed-back = λ i. ((local_close Device (l ∷ []) only_socket).0, one-record (local_close Device (l ∷ []) only_socket).1 (close-count Device (l ∷ []) only_socket) i);
  table = λ f o. receiving-table (device own) (device_of l area) f o;
  local = local-tables Device (l ∷ []) only_socket;
  back = λ s m a. back (device own) (device_of l area) only_socket m
      (record { right = is_right_lem own l area s; not_bad = not-bad own l area s; socket = refl; ready = ready_for Device l m a });
  only = λ operations. only (device own) (device_of l area) operations;
  opened = λ e operations. opened-since (device own) (device_of l area) only_socket refl (ap in_use e) operations;
  mixture = λ s m a. demand3 (device own) (device_of l area) (λ _. m)
      (record { right = is_right_lem own l area s; not_bad = not-bad own l area s; ready = at_first own l area s m a });
}
