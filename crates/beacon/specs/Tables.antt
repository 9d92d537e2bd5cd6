-- Document 01's answers to a beacon and to the local key calls, in the order in which they are tried, each with what it is given for: to be read
-- beside "Beacons and states". No condition and no value goes by a definition of `Rules.antt` or `Beacons.antt`.
use Rattle.std.specs.Prelude.{ℕ, ◌+◌, ◌/◌, ◌%◌, Bool, true, false, ◌&&◌, ◌||◌, not, cond, List, [], ◌∷◌, leb, ltb, eqb, length, get_or}
use Rattle.octets.specs.Numbers.{big16, big32}
use Rattle.octets.specs.Tables.{Row, refusal, reply}
use Rattle.beacon.specs.declared.Key.{Key}
use Rattle.beacon.specs.declared.Key.TheVariants.{Old, New}
use Rattle.beacon.specs.declared.Subnet.{Subnet}
use Rattle.beacon.specs.declared.Subnet.TheVariants.{Primary, Secondary}
use Rattle.beacon.specs.declared.IvState.{IvState}
use Rattle.beacon.specs.declared.SecurityState.{SecurityState}
use Rattle.beacon.specs.declared.Hearing.{Hearing}

-- 14: "a phase above 2"
abbrev pub bad_state : SecurityState → Row
bad_state s = refusal 14 (ltb 2 s.phase)

-- ---- a beacon

-- the first octet
abbrev pub is_type : ℕ → List ℕ → Bool
is_type type b = eqb (get_or b 0 0) type

-- "length not 19 or 23 in type 0, not 22 in type 1"
abbrev pub is_wrong_length : List ℕ → Bool
is_wrong_length b =
    (is_type 0 b && not (eqb (length b) 19 || eqb (length b) 23))
    || (is_type 1 b && not (eqb (length b) 22))

abbrev pub is_new : Key → Bool
is_new Old = false
is_new New = true

-- "Phase 0 has only 'old': 'new' gives 55. [..] Phase 2: old key 55"
abbrev pub is_wrong_key : ℕ → Key → Bool
is_wrong_key phase key = (eqb phase 0 && is_new key) || (eqb phase 2 && not (is_new key))

abbrev pub on_secondary : Subnet → Bool
on_secondary Primary = false
on_secondary Secondary = true

-- "57 if B < I or B > I + 42, or on a secondary subnet if B > I"
abbrev pub is_out_of_window : ℕ → Subnet → ℕ → Bool
is_out_of_window i subnet b = ltb b i || (ltb (i + 42) b || (on_secondary subnet && ltb i b))

-- "Type 0: UUID 16, OOB 2, optional hash 4": the UUID's place, the OOB of octets 17 and 18, the hash's place
abbrev pub unprovisioned_values : List ℕ → List ℕ
unprovisioned_values b = 1 ∷ big16 b 17 ∷ cond (eqb (length b) 23) (19 ∷ []) []

-- ---- the two values of an accepted beacon of type 1

-- "flags 1 (bit 0 key refresh, bit 1 IV update, others ignored)"
abbrev pub key_flag : List ℕ → Bool
key_flag b = eqb (get_or b 1 0 % 2) 1

abbrev pub iv_flag : List ℕ → Bool
iv_flag b = eqb (get_or b 1 0 / 2 % 2) 1

-- "Phase 1: new key [..] with flag 0 phase 0 and 'revoke old'; [..] Phase 2: [..] flag 0 gives phase 0 and 'revoke old'."
abbrev pub revokes_old : ℕ → Key → Bool → Bool
revokes_old phase key flag = (eqb phase 1 && (is_new key && not flag)) || (eqb phase 2 && not flag)

-- "In progress, B = I, flag 0: normal, 'reset sequence'."
abbrev pub resets_sequence : IvState → ℕ → Bool → Bool
resets_sequence iv b flag = iv.updating && (eqb b iv.index && not flag)

-- "B from I + 2, or in progress from I + 1: 'recovery wanted'"
abbrev pub wants_recovery : IvState → ℕ → Bool
wants_recovery iv b = leb (iv.index + 2) b || (iv.updating && leb (iv.index + 1) b)

-- "One answer carries both rules' reports.": first 1 for "revoke old", then 1 for "reset sequence" or 2 for "recovery wanted"
abbrev pub secure_values : SecurityState → Hearing → List ℕ → List ℕ
secure_values s host b =
    cond (revokes_old s.phase host.key (key_flag b)) 1 0
    ∷ cond (resets_sequence s.iv (big32 b 10) (iv_flag b)) 1 (cond (wants_recovery s.iv (big32 b 10)) 2 0)
    ∷ []

-- ---- THE TABLE

-- "51 empty; 52 other type; 53 length [..]; 54 the host says not authentic; 55 wrong key; 57 index out of window. In that order; 54 on are for type 1"
abbrev pub heard_rows : SecurityState → Hearing → List ℕ → List Row
heard_rows s host b =
    bad_state s
    ∷ refusal 51 (eqb (length b) 0)
    ∷ refusal 52 (not (is_type 0 b || is_type 1 b))
    ∷ refusal 53 (is_wrong_length b)
    ∷ refusal 54 (is_type 1 b && not host.authentic)
    ∷ refusal 55 (is_type 1 b && is_wrong_key s.phase host.key)
    ∷ refusal 57 (is_type 1 b && is_out_of_window s.iv.index host.subnet (big32 b 10))
    ∷ reply "unprovisioned" (unprovisioned_values b) (is_type 0 b)
    ∷ reply "secure" (secure_values s host b) true
    ∷ []

-- ---- the local calls

-- "Local start is for phase 0 only; [..] else 56"
abbrev pub start_rows : SecurityState → List Row
start_rows s =
    bad_state s
    ∷ refusal 56 (not (eqb s.phase 0))
    ∷ reply "moved" (0 ∷ []) true
    ∷ []

-- "local set to 2 or 3 for phases 1 and 2 only, and 3 means phase 0 with 'revoke old'; else 56"
abbrev pub set_rows : SecurityState → ℕ → List Row
set_rows s target =
    bad_state s
    ∷ refusal 56 (not ((eqb s.phase 1 || eqb s.phase 2) && (eqb target 2 || eqb target 3)))
    ∷ reply "moved" (cond (eqb target 3) 1 0 ∷ []) true
    ∷ []
