-- The part that was lent and is back is a write (`back`).
use Prim.Native.Nat.{◌*◌, ◌+◌, ◌-◌, ℕ}
use mathlib.Core.Path.{◌∙◌}
use native.Mathlib.Nat.{add-sub_cancel_left}
use native.Mathlib.Omega.{arith}
use Rattle.station.proofs.Laws.{back, part-as}
use Rattle.station.proofs.step_at.Goals as goal

pub returns : goal.returns
returns c =
    let st = c.receive in
    let a = c.args in
    let b : ℕ = 1469 * a.place in
    let e = part-as a.link a.area.now a.frame.now a.place (b + 1469 - b) (add-sub_cancel_left b 1469) in (
      rw (← e) st.ensures.0,
      back a.area.now b (b + 1469 - b) st.new.part (omega (arith, st.auto.part)) ∙ rw (← e, st.ensures.1),
    )
