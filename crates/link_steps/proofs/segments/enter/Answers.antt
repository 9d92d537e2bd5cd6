-- A copy that fits is a write (`copied-whole`), and what is entered is that write and `completed` (`entered-is`, `entered-part`).
use Prim.Native.Nat.{◌+◌, ◌≤◌}
use lib.ListN.{length}
use mathlib.Core.Path.{ap, sym}
use native.Mathlib.Omega.{arith}
use Rattle.links.specs.declared.HalfMessage.{HalfMessage}
use Rattle.transactions.proofs.Laws.{seg_n-small}
use Rattle.transactions.specs.Segments.{segment_place}
use Rattle.link_steps.proofs.Laws.{copied-whole, entered-is, entered-part, segment-in}
use Rattle.link_steps.specs.Calls.{one_link, stepped_of}
use Rattle.link_steps.proofs.segments.enter.Goals as goal

pub mark-requires : goal.mark-requires
mark-requires c = omega (arith, seg_n-small c.args.message.length c.requires.few_octets)

pub complete-requires : goal.complete-requires
complete-requires c = omega (arith, ap (λ (m : HalfMessage). m.length) c.mark.ensures)

pub returns : goal.returns
returns c =
    let a = c.args in
    let q = c.requires in
    let d = a.octets.now in
    let h : segment_place a.index + length d ≤ length a.part.now = omega (arith, segment-in a.message.length a.index (length d) q.some_octets q.few_octets q.inside q.fits) in
    let w = copied-whole a.part.now d (segment_place a.index) h in
    let x = one_link a.link a.part.now in (
      simp (c.complete.ensures, c.mark.ensures, c.copy.ensures.1, c.segment_place-place.ensures, w) (sym (ap stepped_of (entered-is x a.message a.index d))),
      simp (c.copy.ensures.1, c.segment_place-place.ensures, w) (sym (entered-part x a.message a.index d)),
    )
