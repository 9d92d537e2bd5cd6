use Prim.Native.Nat.{ℕ, suc, ◌+◌, ◌-◌}
use mathlib.Core.Path.{◌≡◌, refl, sym, ap, ◌∙◌}
use native.Mathlib.Omega.{arith}
use Rattle.fcs.specs.Fcs.{bit_step, bit_steps, octet_step}
use Rattle.fcs.proofs.octet_step.Goals as goal

-- one step of those that are left
step : (n m x : ℕ) → n ≡ suc m → bit_steps n x ≡ bit_steps m (bit_step x)
step n m x e = ap (λ (k : ℕ). bit_steps k x) e

pub loop-init : goal.loop-init
unfolding octet_step
loop-init c = refl

pub loop-preserved : goal.loop-preserved
loop-preserved c =
    let l = c.loop in
    rw c.bit_step-x.ensures (sym (step (8 - l.counter) (8 - (l.counter + 1)) l.x (omega arith)) ∙ l.invariant)

pub returns : goal.returns
returns c =
    let l = c.loop in
    let none : 8 - l.counter ≡ 0 = omega arith in
    rw none at l.invariant
