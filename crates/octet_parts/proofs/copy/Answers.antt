use mathlib.Core.Path.{sym, ◌∙◌}
use lib.ListN.{length-take, length-drop}
use native.Mathlib.Nat.{add-sub_cancel_left}
use native.Mathlib.Omega.{arith}
use Rattle.octets.proofs.Parts.{copied-part}
use Rattle.octets.proofs.Tests.{holds-both}
use Rattle.octets.specs.Parts.{copied}
use Rattle.octet_parts.proofs.copy.Goals as goal

pub overflow_add-from : goal.overflow_add-from
overflow_add-from c = record { fits = omega (arith, c.fits-then-fits.ensures.1 c.if-fits-2.true) }

pub slice_bounds-copy_all-end : goal.slice_bounds-copy_all-end
slice_bounds-copy_all-end c = omega (arith, c.fits-then-fits.ensures.1 c.if-fits-2.true)

pub copy_all-requires : goal.copy_all-requires
copy_all-requires c = simp (length-take, length-drop, add-sub_cancel_left) (omega (arith, c.fits.ensures.1 c.if-fits.true))

pub returns-then-fits-2 : goal.returns-then-fits-2
returns-then-fits-2 c =
    let to = c.fits.ensures in
    let source = c.fits-then-fits.ensures in
    let yes = c.if-fits.true in
    let also = c.if-fits-2.true in
    (sym (holds-both (sym to.0 ∙ yes) (sym source.0 ∙ also)), simp (c.copy_all.ensures, add-sub_cancel_left) (sym (copied-part _ _ _ _ _ (to.1 yes) (source.1 also))))

pub returns-else-fits-2 : goal.returns-else-fits-2
unfolding copied
returns-else-fits-2 c =
    let to = sym c.fits.ensures.0 ∙ c.if-fits.true in
    let source = sym c.fits-then-fits.ensures.0 ∙ c.if-fits-2.false in
    (rw (to, source), rw (to, source))

pub returns-else-fits : goal.returns-else-fits
unfolding copied
returns-else-fits c =
    let to = sym c.fits.ensures.0 ∙ c.if-fits.false in
    (rw to, rw to)
