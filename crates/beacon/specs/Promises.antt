-- What is promised of beacons and states beyond each call's contract. The proofs are `proofs/Tables.antt`, of the three tables of answers, and
-- `proofs/Promises.antt`.
use Rattle.std.specs.Prelude.{ℕ, ◌+◌, ◌≤◌, Bool, true, false, cond, List, [], ◌∷◌, ◌≡◌, eqb, get_or, Option, Some, None}
use Rattle.octets.specs.Told.{refused, answered}
use Rattle.octets.specs.Tables.{ByTable}
use Rattle.beacon.specs.Rules.{key_wrong, key_rule, iv_rule}
use Rattle.beacon.specs.Beacons.{is_good, refresh_flag, update_flag, index_of, heard, started, set, revoke_value, report_value, told}
use Rattle.beacon.specs.Tables.{heard_rows, start_rows, set_rows}
use Rattle.beacon.specs.declared.Key.{Key}
use Rattle.beacon.specs.declared.Key.TheVariants.{Old, New}
use Rattle.beacon.specs.declared.IvState.{IvState}
use Rattle.beacon.specs.declared.IvReport.{IvReport}
use Rattle.beacon.specs.declared.IvReport.TheVariants as I
use Rattle.beacon.specs.declared.IvStep.{IvStep}
use Rattle.beacon.specs.declared.KeyStep.{KeyStep}
use Rattle.beacon.specs.declared.SecurityState.{SecurityState}
use Rattle.beacon.specs.declared.Hearing.{Hearing}
use Rattle.beacon.specs.declared.Heard.{Heard}

-- ---- every call's answer, by document 01's table

abbrev pub HeardTable : Type 0
HeardTable = (s : SecurityState) (host : Hearing) (b : List ℕ) → ByTable (told (heard s host b).answer) (heard_rows s host b)

abbrev pub StartTable : Type 0
StartTable = (s : SecurityState) → ByTable (told (started s).answer) (start_rows s)

abbrev pub SetTable : Type 0
SetTable = (s : SecurityState) (target : ℕ) → ByTable (told (set s target).answer) (set_rows s target)

-- ---- every call: a refusal changes no state, and a good state stays good

pub record Safe (s : SecurityState) (r : Heard) : Type 0 where
  pub refusal-keeps : (n : ℕ) → told r.answer ≡ refused n → r.state ≡ s
  pub keeps-good : is_good s ≡ true → is_good r.state ≡ true
  pub index-stays-or-rises : s.iv.index ≤ r.state.iv.index

pub record AllSafe : Type 0 where
  pub beacon : (s : SecurityState) (host : Hearing) (b : List ℕ) → Safe s (heard s host b)
  pub start : (s : SecurityState) → Safe s (started s)
  pub setting : (s : SecurityState) (target : ℕ) → Safe s (set s target)

-- "type 0 changes no state"
abbrev pub TypeZeroKeeps : Type 0
TypeZeroKeeps = (s : SecurityState) (host : Hearing) (b : List ℕ) → get_or b 0 0 ≡ 0 → (heard s host b).state ≡ s

-- a local call that moves the phase leaves the IV state: a start leads to phase 1, a set to 2, or with 3 to phase 0
abbrev pub with_phase : ℕ → SecurityState → SecurityState
with_phase phase s = record { phase = phase; iv = s.iv }

pub record LocalMoves : Type 0 where
  pub start : (s : SecurityState) (values : List ℕ) → told (started s).answer ≡ answered "moved" values → (started s).state ≡ with_phase 1 s
  pub setting : (s : SecurityState) (target : ℕ) (values : List ℕ) → told (set s target).answer ≡ answered "moved" values
      → (set s target).state ≡ with_phase (cond (eqb target 3) 0 2) s

-- ---- an accepted beacon of type 1: both rules, each on its own state; the two values are those of its answer

pub record BothRules (s : SecurityState) (host : Hearing) (b : List ℕ) (revoke report : ℕ) : Type 0 where
  pub phase : (heard s host b).state.phase ≡ (key_rule s.phase host.key (refresh_flag b)).phase
  pub revoked : revoke ≡ revoke_value (key_rule s.phase host.key (refresh_flag b)).revoke
  pub iv : (heard s host b).state.iv ≡ (iv_rule s.iv (index_of b) (update_flag b)).iv
  pub reported : report ≡ report_value (iv_rule s.iv (index_of b) (update_flag b)).report
  -- the index never passes the one received
  pub index : (heard s host b).state.iv.index ≤ index_of b

abbrev pub Accepts : Type 0
Accepts =
    (s : SecurityState) (host : Hearing) (b : List ℕ) (revoke report : ℕ) → told (heard s host b).answer ≡ answered "secure" (revoke ∷ report ∷ [])
    → BothRules s host b revoke report

-- "the key rule and the IV rule don't read each other's state": of two accepted beacons, those with equal phase, key and key refresh flag leave one
-- phase and revoke alike; those with equal IV state, index and IV flag leave one IV state and report alike
pub record RulesApart (s : SecurityState) (host : Hearing) (b : List ℕ) (s' : SecurityState) (host' : Hearing) (b' : List ℕ) (v v' p p' : ℕ) : Type 0 where
  pub key : s.phase ≡ s'.phase → host.key ≡ host'.key → refresh_flag b ≡ refresh_flag b'
      → ((heard s host b).state.phase ≡ (heard s' host' b').state.phase) × (v ≡ v')
  pub iv : s.iv ≡ s'.iv → index_of b ≡ index_of b' → update_flag b ≡ update_flag b'
      → ((heard s host b).state.iv ≡ (heard s' host' b').state.iv) × (p ≡ p')

abbrev pub Apart : Type 0
Apart =
    (s : SecurityState) (host : Hearing) (b : List ℕ) (s' : SecurityState) (host' : Hearing) (b' : List ℕ) (v v' p p' : ℕ)
    → told (heard s host b).answer ≡ answered "secure" (v ∷ p ∷ []) → told (heard s' host' b').answer ≡ answered "secure" (v' ∷ p' ∷ [])
    → RulesApart s host b s' host' b' v v' p p'

-- ---- the tables of the two rules

abbrev pub phase_is : ℕ → Bool → KeyStep
phase_is phase revoke = record { phase = phase; revoke = revoke }

-- phase, key, flag
pub record KeyTable : Type 0 where
  pub zero-new : key_wrong 0 New ≡ true
  pub zero-old : key_wrong 0 Old ≡ false
  pub zero-old-any : (f : Bool) → key_rule 0 Old f ≡ phase_is 0 false
  pub one-any : (k : Key) → key_wrong 1 k ≡ false
  pub one-old : (f : Bool) → key_rule 1 Old f ≡ phase_is 1 false
  pub one-new-1 : key_rule 1 New true ≡ phase_is 2 false
  pub one-new-0 : key_rule 1 New false ≡ phase_is 0 true
  pub two-old : key_wrong 2 Old ≡ true
  pub two-new : key_wrong 2 New ≡ false
  pub two-new-1 : key_rule 2 New true ≡ phase_is 2 false
  pub two-new-0 : key_rule 2 New false ≡ phase_is 0 true

abbrev pub normal : ℕ → IvState
normal i = record { index = i; updating = false }

abbrev pub in_progress : ℕ → IvState
in_progress i = record { index = i; updating = true }

abbrev pub iv_is : IvState → Option IvReport → IvStep
iv_is iv report = record { iv = iv; report = report }

-- state, index received, flag, for every index known
pub record IvTable (i : ℕ) : Type 0 where
  pub normal-same : (f : Bool) → iv_rule (normal i) i f ≡ iv_is (normal i) None
  pub normal-next-1 : iv_rule (normal i) (i + 1) true ≡ iv_is (in_progress (i + 1)) None
  pub normal-next-0 : iv_rule (normal i) (i + 1) false ≡ iv_is (normal i) None
  pub normal-later : (n : ℕ) (f : Bool) → iv_rule (normal i) (i + 2 + n) f ≡ iv_is (normal i) (Some I.RecoveryWanted)
  pub progress-same-0 : iv_rule (in_progress i) i false ≡ iv_is (normal i) (Some I.ResetSequence)
  pub progress-same-1 : iv_rule (in_progress i) i true ≡ iv_is (in_progress i) None
  pub progress-later : (n : ℕ) (f : Bool) → iv_rule (in_progress i) (i + 1 + n) f ≡ iv_is (in_progress i) (Some I.RecoveryWanted)
