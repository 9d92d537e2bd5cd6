-- The key rule and the IV rule. Neither reads the other's state.
use Rattle.std.specs.Prelude.{ℕ, ◌+◌, Bool, true, false, ◌&&◌, ◌||◌, not, cond, leb, eqb, Some, None}
use Rattle.beacon.specs.declared.Key.{Key}
use Rattle.beacon.specs.declared.Key.TheVariants.{Old, New}
use Rattle.beacon.specs.declared.Subnet.{Subnet}
use Rattle.beacon.specs.declared.Subnet.TheVariants.{Primary, Secondary}
use Rattle.beacon.specs.declared.IvState.{IvState}
use Rattle.beacon.specs.declared.IvReport.TheVariants as I
use Rattle.beacon.specs.declared.KeyStep.{KeyStep}
use Rattle.beacon.specs.declared.IvStep.{IvStep}

-- ---- the key rule

-- 55: "Phase 0 has only 'old': 'new' gives 55. [..] Phase 2: old key 55"
abbrev pub key_wrong : ℕ → Key → Bool
key_wrong phase Old = eqb phase 2
key_wrong phase New = eqb phase 0

-- "Phase 1: new key with flag 1 gives phase 2, with flag 0 phase 0 and 'revoke old'; old key changes no phase. Phase 2: [..] flag 0 gives phase 0
-- and 'revoke old'."
abbrev pub key_rule : ℕ → Key → Bool → KeyStep
key_rule phase Old refresh = record { phase = phase; revoke = false }
key_rule phase New true = record { phase = 2; revoke = false }
key_rule phase New false = record { phase = 0; revoke = true }

-- ---- the IV rule, "with index I known and B received, as whole numbers"

abbrev pub is_secondary : Subnet → Bool
is_secondary Primary = false
is_secondary Secondary = true

-- 57: "B < I or B > I + 42, or on a secondary subnet if B > I"
unfoldable pub out_of_window : ℕ → Subnet → ℕ → Bool
out_of_window i subnet b = not (leb i b) || (leb (i + 43) b || (is_secondary subnet && leb (i + 1) b))

-- no IV change; "recovery wanted" is reported where it is
abbrev pub recovery_step : IvState → Bool → IvStep
recovery_step iv true = record { iv = iv; report = Some I.RecoveryWanted }
recovery_step iv false = record { iv = iv; report = None }

-- "B from I + 2, or in progress from I + 1"
abbrev pub recovery_from : IvState → ℕ
recovery_from iv = iv.index + cond iv.updating 1 2

-- "Normal, B = I + 1, flag 1: index B, in progress. In progress, B = I, flag 0: normal, 'reset sequence'. B from I + 2, or in progress from I + 1:
-- 'recovery wanted', no IV change. Else no change."
unfoldable pub iv_rule : IvState → ℕ → Bool → IvStep
iv_rule iv b update =
    cond (not iv.updating && (eqb b (iv.index + 1) && update)) (record { iv = record { index = b; updating = true }; report = None })
    (cond (iv.updating && (eqb b iv.index && not update)) (record { iv = record { index = iv.index; updating = false }; report = Some I.ResetSequence })
    (recovery_step iv (leb (recovery_from iv) b)))
