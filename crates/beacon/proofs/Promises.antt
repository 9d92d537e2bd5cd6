-- The promises of `specs/Promises.antt` but the tables of answers.
use Prim.Native.Nat.{ℕ, ◌≤◌}
use native.Mathlib.Omega.{arith}
use mathlib.Core.Bool.{Bool, true, false}
use mathlib.Core.List.{List, [], ◌∷◌}
use mathlib.Core.Path.{◌≡◌, refl, sym, ◌∙◌}
use Rattle.std.specs.Prelude.{Option, Some, None, Ok}
use lib.Dec.{leb, eqb}
use lib.ListN.{length, get_or}
use borrow.Author.Tests.{leb-true, leb-false}
use Rattle.octets.specs.Told.{answered}
use Rattle.octets.proofs.Tables.{other-told}
use Rattle.octets.proofs.Tests.{cases, tests}
use Rattle.beacon.specs.Rules.{key_wrong, key_rule, out_of_window, iv_rule}
use Rattle.beacon.specs.Beacons.{refusing, is_good, unprovisioned, refresh_flag, update_flag, index_of, moved, secure, heard, started, set, revoke_value, report_value, told}
use Rattle.beacon.specs.Promises.{Safe, AllSafe, TypeZeroKeeps, LocalMoves, Accepts, Apart, KeyTable, IvTable}
use Rattle.beacon.specs.declared.Key.{Key}
use Rattle.beacon.specs.declared.Key.TheVariants.{Old, New}
use Rattle.beacon.specs.declared.Subnet.{Subnet}
use Rattle.beacon.specs.declared.IvState.{IvState}
use Rattle.beacon.specs.declared.SecurityState.{SecurityState}
use Rattle.beacon.specs.declared.Hearing.{Hearing}
use Rattle.beacon.specs.declared.BeaconRefusal.{BeaconRefusal}
use Rattle.beacon.specs.declared.BeaconRefusal.TheVariants as R
use Rattle.beacon.specs.declared.BeaconAnswer.TheVariants as A
use Rattle.beacon.specs.declared.Heard.{Heard}

-- ---- the tables

pub key-table : KeyTable
key-table = record {
  zero-new = refl;
  zero-old = refl;
  zero-old-any = λ f. refl;
  one-any = one-any;
  one-old = λ f. refl;
  one-new-1 = refl;
  one-new-0 = refl;
  two-old = refl;
  two-new = refl;
  two-new-1 = refl;
  two-new-0 = refl;
}
  where
    one-any : (k : Key) → key_wrong 1 k ≡ false
    one-any Old = refl
    one-any New = refl

pub iv-table : (i : ℕ) → IvTable i
unfolding iv_rule
iv-table i = record {
  normal-same = λ f. grind (arith, tests);
  normal-next-1 = grind (arith, tests);
  normal-next-0 = grind (arith, tests);
  normal-later = λ n f. grind (arith, tests);
  progress-same-0 = grind (arith, tests);
  progress-same-1 = grind (arith, tests);
  progress-later = λ n f. grind (arith, tests);
}

-- ---- the rules by themselves

phase-good : (phase : ℕ) (k : Key) (f : Bool) → leb phase 2 ≡ true → leb (key_rule phase k f).phase 2 ≡ true
phase-good phase k f h = grind arith

-- the index stays or rises, and never passes the one received
index-between : (iv : IvState) (b : ℕ) (f : Bool) → iv.index ≤ b → (iv.index ≤ (iv_rule iv b f).iv.index) × ((iv_rule iv b f).iv.index ≤ b)
unfolding iv_rule
index-between iv b f h = grind (arith, tests)

in_window : (i b : ℕ) (subnet : Subnet) → out_of_window i subnet b ≡ false → i ≤ b
unfolding out_of_window
in_window i b subnet h = grind (arith, leb-true, leb-false)

-- ---- what hearing a beacon can do

data Outcome (s : SecurityState) (host : Hearing) (b : List ℕ) : Heard → Type 0 where
  refuses : (q : BeaconRefusal) → Outcome s host b (refusing s q)
  tells : (u o : ℕ) (h : Option ℕ) → Outcome s host b (record { state = s; answer = Ok (A.Unprovisioned u o h) })
  steps : is_good s ≡ true → out_of_window s.iv.index host.subnet (index_of b) ≡ false → Outcome s host b (moved s host b)

by-secure : (s : SecurityState) (host : Hearing) (b : List ℕ) → is_good s ≡ true → Outcome s host b (secure s host b)
unfolding secure
by-secure s host b g =
    cases (eqb (length b) 22)
    (λ e. rw e (cases host.authentic
    (λ e. rw e (cases (key_wrong s.phase host.key) (λ e. rw e (refuses R.WrongKey))
    (λ e. rw e (cases (out_of_window s.iv.index host.subnet (index_of b)) (λ e. rw e (refuses R.OutOfWindow)) (λ w. rw w (steps g w))))))
    (λ e. rw e (refuses R.NotAuthentic))))
    (λ e. rw e (refuses R.WrongLength))

outcome : (s : SecurityState) (host : Hearing) (b : List ℕ) → Outcome s host b (heard s host b)
unfolding heard unprovisioned
outcome s host b =
    cases (is_good s)
    (λ g. rw g (cases (eqb (length b) 0) (λ e. rw e (refuses R.Empty))
    (λ e. rw e (cases (eqb (get_or b 0 0) 0)
    (λ e. rw e (cases (eqb (length b) 19) (λ e. rw e (tells 1 _ None))
    (λ e. rw e (cases (eqb (length b) 23) (λ e. rw e (tells 1 _ (Some 19))) (λ e. rw e (refuses R.WrongLength))))))
    (λ e. rw e (cases (eqb (get_or b 0 0) 1)
    (λ e. rw e (by-secure s host b g))
    (λ e. rw e (refuses R.UnknownType))))))))
    (λ g. rw g (refuses R.BadState))

-- ---- every call

safe-refusing : (s : SecurityState) (q : BeaconRefusal) → Safe s (refusing s q)
safe-refusing s q = record { refusal-keeps = λ r e. refl; keeps-good = λ h. h; index-stays-or-rises = omega arith }

safe-outcome : (s : SecurityState) (host : Hearing) (b : List ℕ) (r : Heard) → Outcome s host b r → Safe s r
unfolding moved
safe-outcome s host b r (refuses q) = safe-refusing s q
safe-outcome s host b r (tells u o h) = record { refusal-keeps = λ r e. refl; keeps-good = λ g. g; index-stays-or-rises = omega arith }
safe-outcome s host b r (steps g w) = record {
  refusal-keeps = λ n e. cc;
  keeps-good = λ g. phase-good s.phase host.key (refresh_flag b) g;
  index-stays-or-rises = (index-between s.iv (index_of b) (update_flag b) (in_window s.iv.index (index_of b) host.subnet w)).0;
}

pub all-safe : AllSafe
unfolding started set
all-safe = record {
  beacon = λ s host b. safe-outcome s host b (heard s host b) (outcome s host b);
  start = λ s. record { refusal-keeps = λ n. grind (arith, tests); keeps-good = grind (arith, tests); index-stays-or-rises = grind (arith, tests) };
  setting = λ s target.
      record { refusal-keeps = λ n. grind (arith, tests); keeps-good = grind (arith, tests); index-stays-or-rises = grind (arith, tests) };
}

pub type-zero-keeps : TypeZeroKeeps
unfolding heard unprovisioned
type-zero-keeps s host b zero = grind (arith, tests)

pub local-moves : LocalMoves
unfolding started set
local-moves = record { start = λ s values. grind (arith, tests); setting = λ s target values. grind (arith, tests) }

-- ---- an accepted beacon of type 1

-- what it says of any result that is an outcome
pub record Both (s : SecurityState) (host : Hearing) (b : List ℕ) (r : Heard) (revoke report : ℕ) : Type 0 where
  pub phase : r.state.phase ≡ (key_rule s.phase host.key (refresh_flag b)).phase
  pub revoked : revoke ≡ revoke_value (key_rule s.phase host.key (refresh_flag b)).revoke
  pub iv : r.state.iv ≡ (iv_rule s.iv (index_of b) (update_flag b)).iv
  pub reported : report ≡ report_value (iv_rule s.iv (index_of b) (update_flag b)).report
  pub index : r.state.iv.index ≤ index_of b

accepted : (s : SecurityState) (host : Hearing) (b : List ℕ) (r : Heard) → Outcome s host b r → (v p : ℕ) → told r.answer ≡ answered "secure" (v ∷ p ∷ [])
    → Both s host b r v p
unfolding moved
accepted s host b r (refuses q) v p e = other-told _ _ refl e
accepted s host b r (tells u o h) v p e = other-told _ _ refl e
accepted s host b r (steps g w) v p e = record {
  phase = refl;
  revoked = cc;
  iv = refl;
  reported = cc;
  index = (index-between s.iv (index_of b) (update_flag b) (in_window s.iv.index (index_of b) host.subnet w)).1;
}

pub accepts : Accepts
accepts s host b v p e =
    let a = accepted s host b (heard s host b) (outcome s host b) v p e in
    record { phase = a.phase; revoked = a.revoked; iv = a.iv; reported = a.reported; index = a.index }

pub apart : Apart
apart s host b s' host' b' v v' p p' e e' =
    let a = accepts s host b v p e in
    let c = accepts s' host' b' v' p' e' in
    record {
      key = λ x y z. (a.phase ∙ rw (x, y, z) (sym c.phase), a.revoked ∙ rw (x, y, z) (sym c.revoked));
      iv = λ x y z. (a.iv ∙ rw (x, y, z) (sym c.iv), a.reported ∙ rw (x, y, z) (sym c.reported));
    }
