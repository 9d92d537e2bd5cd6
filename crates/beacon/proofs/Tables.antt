-- The tables of `specs/Tables.antt`: the first row that holds, test by test.
use Prim.Native.Nat.{ℕ}
use native.Mathlib.Omega.{arith}
use mathlib.Core.Bool.{Bool, true, false, ◌||◌, cond}
use mathlib.Core.List.{List}
use mathlib.Core.Option.{some}
use mathlib.Core.Path.{◌≡◌, refl}
use lib.Dec.{leb, eqb}
use lib.ListN.{length, get_or}
use borrow.Author.Tests.{leb-true, lt-ltb, eqb-true}
use Rattle.octets.specs.Tables.{first_of}
use Rattle.octets.proofs.Tables.{by-table}
use Rattle.octets.proofs.Tests.{cases, tests, lt_not_le}
use Rattle.beacon.specs.Rules.{key_wrong, key_rule, is_secondary, out_of_window, iv_rule}
use Rattle.beacon.specs.Beacons.{unprovisioned, refresh_flag, update_flag, index_of, moved, secure, heard, started, set, revoke_value, report_value, told}
use Rattle.beacon.specs.Tables.{is_wrong_key, on_secondary, is_out_of_window, revokes_old, resets_sequence, wants_recovery, heard_rows, start_rows, set_rows}
use Rattle.beacon.specs.Promises.{HeardTable, StartTable, SetTable}
use Rattle.beacon.specs.declared.Key.{Key}
use Rattle.beacon.specs.declared.Subnet.{Subnet}
use Rattle.beacon.specs.declared.Subnet.TheVariants.{Primary, Secondary}
use Rattle.beacon.specs.declared.IvState.{IvState}
use Rattle.beacon.specs.declared.SecurityState.{SecurityState}
use Rattle.beacon.specs.declared.Hearing.{Hearing}

-- ---- tests

-- a number is not two numbers
one_only : (x a b : ℕ) → eqb a b ≡ false → eqb x a ≡ true → eqb x b ≡ false
one_only x a b d e = rw (eqb-true x a e) d

-- 55 and 57 as `Rules.antt` tests them
key-same : (phase : ℕ) (key : Key) → is_wrong_key phase key ≡ key_wrong phase key
key-same phase key = grind arith

secondary-same : (subnet : Subnet) → on_secondary subnet ≡ is_secondary subnet
secondary-same Primary = refl
secondary-same Secondary = refl

window_same : (i : ℕ) (subnet : Subnet) (b : ℕ) → is_out_of_window i subnet b ≡ out_of_window i subnet b
unfolding out_of_window
window_same i subnet b = grind (arith, tests, lt-ltb)

-- the two values of the answer, as the rules give them

revoke-same : (phase : ℕ) (key : Key) (flag : Bool) → leb phase 2 ≡ true → key_wrong phase key ≡ false
    → cond (revokes_old phase key flag) 1 0 ≡ revoke_value (key_rule phase key flag).revoke
revoke-same phase key flag g k = grind (arith, tests, leb-true)

report-same : (iv : IvState) (b : ℕ) (flag : Bool)
    → cond (resets_sequence iv b flag) 1 (cond (wants_recovery iv b) 2 0) ≡ report_value (iv_rule iv b flag).report
unfolding iv_rule
report-same iv b flag = grind (arith, tests)

-- a good state's phase that is not 0
one-or-two : (phase : ℕ) → leb phase 2 ≡ true → (eqb phase 1 || eqb phase 2) ≡ leb 1 phase
one-or-two phase h = grind (arith, tests, leb-true)

-- ---- a beacon

heard-first : (s : SecurityState) (host : Hearing) (b : List ℕ) → first_of (heard_rows s host b) ≡ some (told (heard s host b).answer)
unfolding heard unprovisioned secure moved
heard-first s host b =
    rw (lt_not_le 2 s.phase, key-same s.phase host.key, window_same s.iv.index host.subnet (index_of b))
    (cases (leb s.phase 2)
    (λ good. rw good (cases (eqb (length b) 0) (λ e. rw e)
    (λ e. rw e (cases (eqb (get_or b 0 0) 0)
    (λ e. rw (e, one_only (get_or b 0 0) 0 1 refl e) (cases (eqb (length b) 19) (λ e. rw (e, one_only (length b) 19 23 refl e))
    (λ e. rw e (cases (eqb (length b) 23) (λ e. rw e) (λ e. rw e)))))
    (λ e. rw e (cases (eqb (get_or b 0 0) 1)
    (λ e. rw e (cases (eqb (length b) 22)
    (λ e. rw e (cases host.authentic
    (λ e. rw e (cases (key_wrong s.phase host.key) (λ e. rw e)
    (λ right. rw right (cases (out_of_window s.iv.index host.subnet (index_of b)) (λ e. rw e)
    (λ e. rw (e, revoke-same s.phase host.key (refresh_flag b) good right, report-same s.iv (index_of b) (update_flag b)))))))
    (λ e. rw e)))
    (λ e. rw e)))
    (λ e. rw e)))))))
    (λ e. rw e))

pub heard-table : HeardTable
heard-table s host b = by-table (told (heard s host b).answer) (heard_rows s host b) refl (heard-first s host b)

-- ---- the local calls

pub start-table : StartTable
unfolding started
start-table s = by-table (told (started s).answer) (start_rows s) refl (grind (arith, tests, lt_not_le))

pub set-table : SetTable
unfolding set
set-table s target = by-table (told (set s target).answer) (set_rows s target) refl (grind (arith, tests, lt_not_le, one-or-two))
