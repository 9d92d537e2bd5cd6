use Prim.Native.Nat.{◌-◌}
use mathlib.Core.Path.{◌≡◌}
use Rattle.fcs.specs.Fcs.{bit_steps, octet_step}
use Rattle.fcs.proofs.octet_step.Given as goal

abbrev pub invariant-loop : goal.invariant-loop
invariant-loop l = bit_steps (8 - l.counter) l.x ≡ octet_step l.remainder l.octet
