use lib.ListN.{length, take, drop, length-drop}
use lib.Seq.{take_all}
use native.Mathlib.Omega.{arith}
use Prim.Native.Nat.{◌-◌}
use mathlib.Core.Path.{◌≡◌, sym, ◌∙◌}
use Rattle.proxy_filter.specs.Calls.{controlled}
use Rattle.proxy_filter.proofs.Turns.{some_octet}
use Rattle.proxy_filter.proofs.Filter.control.Goals as goal

pub returns-then-not-is_good : goal.returns-then-not-is_good
unfolding controlled
returns-then-not-is_good c = simp (← c.is_good.ensures, c.if-not-is_good.true) c.refuse.ensures

pub slice_bounds-change_all-count : goal.slice_bounds-change_all-count
slice_bounds-change_all-count c = some_octet c.args.message.now (sym c.request_of.ensures ∙ c.in-Ok-Change.is)

pub slice_bounds-change_all-start : goal.slice_bounds-change_all-start
slice_bounds-change_all-start c = some_octet c.args.message.now (sym c.request_of.ensures ∙ c.in-Ok-Change.is)

pub returns-in-Ok-SetType : goal.returns-in-Ok-SetType
unfolding controlled
returns-in-Ok-SetType c =
    simp (
      ← c.is_good.ensures,
      c.if-not-is_good.false,
      ← c.request_of.ensures,
      c.in-Ok-SetType.is,
      c.in-Ok-SetType.field-0-is,
      c.report.ensures,
      c.empty.ensures,
    )

pub returns-in-Ok-Change : goal.returns-in-Ok-Change
unfolding controlled
returns-in-Ok-Change c =
    let m = c.args.message.now in
    let rest : take (length m - 1) (drop 1 m) ≡ drop 1 m = take_all (length m - 1) (drop 1 m) (omega (arith, length-drop 1 m)) in
    simp (
      ← c.is_good.ensures,
      c.if-not-is_good.false,
      ← c.request_of.ensures,
      c.in-Ok-Change.is,
      c.in-Ok-Change.field-0-is,
      c.report-in-Ok-Change.ensures,
      c.change_all.ensures,
      rest,
    )

pub returns-in-Err : goal.returns-in-Err
unfolding controlled
returns-in-Err c =
    simp (
      ← c.is_good.ensures,
      c.if-not-is_good.false,
      ← c.request_of.ensures,
      c.in-Err.is,
      c.refuse-in-Err.ensures,
    )
