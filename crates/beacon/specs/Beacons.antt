-- A beacon heard, and the local calls on the key refresh phase.
use Rattle.std.specs.Prelude.{ℕ, ◌/◌, ◌%◌, Bool, true, false, cond, List, [], ◌∷◌, leb, eqb, length, get_or, Option, Some, None, Result, Ok, Err}
use Rattle.octets.specs.Numbers.{big16, big32}
use Rattle.octets.specs.Told.{Told, refused, answered}
use Rattle.beacon.specs.Rules.{key_wrong, key_rule, out_of_window, iv_rule}
use Rattle.beacon.specs.declared.SecurityState.{SecurityState}
use Rattle.beacon.specs.declared.Hearing.{Hearing}
use Rattle.beacon.specs.declared.IvReport.{IvReport}
use Rattle.beacon.specs.declared.IvReport.TheVariants as I
use Rattle.beacon.specs.declared.BeaconRefusal.{BeaconRefusal}
use Rattle.beacon.specs.declared.BeaconRefusal.TheVariants as R
use Rattle.beacon.specs.declared.BeaconAnswer.{BeaconAnswer}
use Rattle.beacon.specs.declared.BeaconAnswer.TheVariants as A
use Rattle.beacon.specs.declared.Heard.{Heard}

abbrev pub refusing : SecurityState → BeaconRefusal → Heard
refusing s r = record { state = s; answer = Err r }

-- "a phase above 2" is bad
abbrev pub is_good : SecurityState → Bool
is_good s = leb s.phase 2

-- ---- "Type 0: UUID 16, OOB 2, optional hash 4"; 53: "length not 19 or 23"; it "changes no state"
unfoldable pub unprovisioned : SecurityState → List ℕ → Heard
unprovisioned s b =
    cond (eqb (length b) 19) (record { state = s; answer = Ok (A.Unprovisioned 1 (big16 b 17) None) })
    (cond (eqb (length b) 23) (record { state = s; answer = Ok (A.Unprovisioned 1 (big16 b 17) (Some 19)) })
    (refusing s R.WrongLength))

-- ---- "Type 1: flags 1 (bit 0 key refresh, bit 1 IV update, others ignored), Network ID 8, IV index 4, authentication 8"

abbrev pub refresh_flag : List ℕ → Bool
refresh_flag b = eqb (get_or b 1 0 % 2) 1

abbrev pub update_flag : List ℕ → Bool
update_flag b = eqb (get_or b 1 0 / 2 % 2) 1

abbrev pub index_of : List ℕ → ℕ
index_of b = big32 b 10

-- both rules at once: "One answer carries both rules' reports."
unfoldable pub moved : SecurityState → Hearing → List ℕ → Heard
moved s host b = record {
  state = record { phase = (key_rule s.phase host.key (refresh_flag b)).phase; iv = (iv_rule s.iv (index_of b) (update_flag b)).iv };
  answer = Ok (A.Secure (key_rule s.phase host.key (refresh_flag b)).revoke (iv_rule s.iv (index_of b) (update_flag b)).report);
}

-- 53, 54, 55, 57, or both rules
unfoldable pub secure : SecurityState → Hearing → List ℕ → Heard
secure s host b =
    cond (eqb (length b) 22)
    (cond host.authentic
    (cond (key_wrong s.phase host.key) (refusing s R.WrongKey)
    (cond (out_of_window s.iv.index host.subnet (index_of b)) (refusing s R.OutOfWindow)
    (moved s host b)))
    (refusing s R.NotAuthentic))
    (refusing s R.WrongLength)

-- A BEACON HEARD: 14, 51, 52, then by its type
unfoldable pub heard : SecurityState → Hearing → List ℕ → Heard
heard s host b =
    cond (is_good s)
    (cond (eqb (length b) 0) (refusing s R.Empty)
    (cond (eqb (get_or b 0 0) 0) (unprovisioned s b)
    (cond (eqb (get_or b 0 0) 1) (secure s host b)
    (refusing s R.UnknownType))))
    (refusing s R.BadState)

-- ---- the local calls: 14, then 56

abbrev pub at_phase : SecurityState → ℕ → Bool → Heard
at_phase s phase revoke = record { state = record { phase = phase; iv = s.iv }; answer = Ok (A.Moved revoke) }

-- "Local start is for phase 0 only"
unfoldable pub started : SecurityState → Heard
started s = cond (is_good s) (cond (eqb s.phase 0) (at_phase s 1 false) (refusing s R.NotAllowed)) (refusing s R.BadState)

-- "local set to 2 or 3 for phases 1 and 2 only, and 3 means phase 0 with 'revoke old'; else 56"
unfoldable pub set : SecurityState → ℕ → Heard
set s target =
    cond (is_good s)
    (cond (leb 1 s.phase)
    (cond (eqb target 2) (at_phase s 2 false) (cond (eqb target 3) (at_phase s 0 true) (refusing s R.NotAllowed)))
    (refusing s R.NotAllowed))
    (refusing s R.BadState)

-- document 01's numbers and words
abbrev pub refusal_number : BeaconRefusal → ℕ
refusal_number R.BadState = 14
refusal_number R.Empty = 51
refusal_number R.UnknownType = 52
refusal_number R.WrongLength = 53
refusal_number R.NotAuthentic = 54
refusal_number R.WrongKey = 55
refusal_number R.NotAllowed = 56
refusal_number R.OutOfWindow = 57

-- the key rule's report: 1 is "revoke old"
abbrev pub revoke_value : Bool → ℕ
revoke_value true = 1
revoke_value false = 0

-- the IV rule's report: 1 is "reset sequence", 2 "recovery wanted"
abbrev pub report_value : Option IvReport → ℕ
report_value None = 0
report_value (Some I.ResetSequence) = 1
report_value (Some I.RecoveryWanted) = 2

-- the values that a hash adds
abbrev pub hash_values : Option ℕ → List ℕ
hash_values None = []
hash_values (Some place) = place ∷ []

abbrev pub told : Result BeaconAnswer BeaconRefusal → Told
told (Ok (A.Unprovisioned uuid oob hash)) = answered "unprovisioned" (uuid ∷ oob ∷ hash_values hash)
told (Ok (A.Secure revoke iv)) = answered "secure" (revoke_value revoke ∷ report_value iv ∷ [])
told (Ok (A.Moved revoke)) = answered "moved" (revoke_value revoke ∷ [])
told (Err r) = refused (refusal_number r)
