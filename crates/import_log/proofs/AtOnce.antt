-- A message of one frame at its link: it is delivered at once, whatever is half-received under another number.
use Prim.Native.Nat.{ℕ, ◌≤◌}
use Rattle.std.specs.Prelude.{Option, Some, None, Ok}
use native.Mathlib.Omega.{arith}
use mathlib.Core.List.{List, []}
use mathlib.Core.Logic.{◌≢◌}
use mathlib.Core.Path.{◌≡◌, refl, ◌∙◌}
use lib.ListN.{length, take}
use borrow.Author.Tests.{ne_eqb}
use Rattle.transactions.specs.Segments.{seg_n, segment}
use Rattle.transactions.specs.declared.TransactionNumber.{TransactionNumber}
use Rattle.pb_adv.specs.declared.SegmentHeader.TheVariants.{Start}
use Rattle.pb_adv_writing.specs.Writing.{header_of}
use Rattle.links.specs.Links.{Awaits, with_received}
use Rattle.links.specs.Segments.{OneLink, entered, begun, on_half, segment_step}
use Rattle.links.specs.declared.HalfMessage.{HalfMessage}
use Rattle.links.specs.declared.Answer.TheVariants as A
use Rattle.links.proofs.Deliver.{fresh, step-inv, inv-stands}

module _ (m : List ℕ) (t : TransactionNumber) where
  -- a link with nothing half-received
  abbrev emptied : OneLink → OneLink
  emptied x = record { link = with_received x.link x.link.last None; part = x.part }

  -- a Start begins its message in place of any other
  begins : (x : OneLink) (half : Option HalfMessage) → ((h : HalfMessage) → half ≡ Some h → h.number ≢ t) → (n c : ℕ) (d : List ℕ)
      → on_half x half t (Start n c) d ≡ entered x (begun t n c) 0 d
  begins x None other n c d = refl
  begins x (Some h) other n c d = rw (ne_eqb h.number.0 t.0 (λ e. other h refl (λ i. record { 0 = e i })))

  module _ (x : OneLink) (awaits : Awaits x.link.last t) (other : (h : HalfMessage) → x.link.half ≡ Some h → h.number ≢ t) where
    as-emptied : segment_step x t (header_of m 0) (segment m 0) ≡ segment_step (emptied x) t (header_of m 0) (segment m 0)
    unfolding segment_step header_of entered
    as-emptied = rw (awaits.not_last, begins x x.link.half other (length m) _ (segment m 0))

    module _ (some : 1 ≤ length m) (one : seg_n (length m) ≡ 0) (room : length m ≤ length x.part) where
      pub at_once : ((segment_step x t (header_of m 0) (segment m 0)).0 ≡ Ok (A.Delivered (length m) t))
          × (take (length m) (segment_step x t (header_of m 0) (segment m 0)).1.part ≡ m)
      at_once =
          let w = step-inv m t some [] (emptied x) 0 (omega arith) (fresh refl awaits refl room) in
          rw as-emptied (w.0 ∙ rw one, inv-stands m t some _ _ (rw one) w.1)
