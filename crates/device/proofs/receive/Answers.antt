-- 11, 14, then an Open (`heard-open`) or another frame (`heard-frame`).
use mathlib.Core.Path.{◌∙◌, ◌≡◌, ap, sym}
use lib.ListN.{length}
use native.Mathlib.Omega.{arith}
use Rattle.links.proofs.Device.{bad-record, wrong-area, wrong-uuid}
use Rattle.device.proofs.Laws.{heard-frame, heard-open, not-open, open-fits}
use Rattle.std.specs.Prelude.{ℕ, Ok}
use Rattle.pb_adv.specs.Frame.{parsed}
use Rattle.pb_adv.specs.declared.Frame.TheVariants as P
use Rattle.device.proofs.receive.Goals.{in-Ok+in_default-parsed, in_default}
use Rattle.device.proofs.receive.Goals as goal

pub returns-then-own-ne-UUID_LENGTH : goal.returns-then-own-ne-UUID_LENGTH
returns-then-own-ne-UUID_LENGTH c =
    let a = c.args in
    let e = wrong-uuid a.own.now a.link a.area.now c.if-own-ne-UUID_LENGTH.true a.frame.now in
    (simp (e, c.refuse_link.ensures), simp e)

pub returns-then-area-ne-AREA_LENGTH : goal.returns-then-area-ne-AREA_LENGTH
returns-then-area-ne-AREA_LENGTH c =
    let a = c.args in
    let e = wrong-area a.own.now a.link a.area.now c.if-area-ne-AREA_LENGTH.true a.frame.now in
    (simp (e, c.refuse_link-then-area-ne-AREA_LENGTH.ensures), simp e)

pub on_open-requires : goal.on_open-requires
on_open-requires c =
    let a = c.args in
    (c.if-own-ne-UUID_LENGTH.false, open-fits a.frame.now c.in-Open.id c.in-Open.uuid (sym c.parse.ensures ∙ rw (← c.in-Open.is) c.in-Ok.is))

pub returns-in-Open : goal.returns-in-Open
returns-in-Open c =
    let a = c.args in
    let good = sym c.is_good_link.ensures ∙ c.if-not-is_good_link.false in
    let e = heard-open a.own.now a.link a.area.now a.frame.now c.if-own-ne-UUID_LENGTH.false c.if-area-ne-AREA_LENGTH.false good c.in-Open.id c.in-Open.uuid (sym c.parse.ensures ∙ rw (← c.in-Open.is) c.in-Ok.is) in
    (rw e c.on_open.ensures, rw e)

pub returns-then-not-is_good_link : goal.returns-then-not-is_good_link
returns-then-not-is_good_link c =
    let a = c.args in
    let e = bad-record a.own.now a.link a.area.now c.if-own-ne-UUID_LENGTH.false c.if-area-ne-AREA_LENGTH.false (sym c.is_good_link.ensures ∙ c.if-not-is_good_link.true) a.frame.now in
    (simp (e, c.refuse_link-then-not-is_good_link.ensures), simp e)

-- no frame that comes here is an Open
pub returns : goal.returns
returns c =
    let a = c.args in
    let st = c.receive in
    let good = sym c.is_good_link.ensures ∙ c.if-not-is_good_link.false in
    let none : (id uuid : ℕ) → parsed a.frame.now ≡ Ok (P.Open id uuid) → ⊥ =
    elim c.match-parse.branch [
      | in-Ok+in_default-parsed w ↦ λ id uuid e.
          let p = sym w.in-Ok.is ∙ c.parse.ensures ∙ e in
          let q : w.in-Ok.parsed ≡ P.Open id uuid = cc in
          w.in_default-parsed.not-Open id uuid q
      | in_default w ↦ λ id uuid e. w.in_default.not-Ok (P.Open id uuid) (c.parse.ensures ∙ e)
    ]
    in
    let other = not-open a.frame.now none in
    let long : length st.new.part ≡ 1469 = omega (arith, st.auto.part, c.if-area-ne-AREA_LENGTH.false) in
    let size = ap length (sym st.ensures.1) ∙ long in
    let e = heard-frame a.own.now a.link a.area.now a.frame.now c.if-own-ne-UUID_LENGTH.false c.if-area-ne-AREA_LENGTH.false good other size in
    (rw e st.ensures.0, rw e st.ensures.1)
