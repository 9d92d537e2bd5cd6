-- The table of `specs/Tables.antt`: the first row that holds, by the length and the type.
use Prim.Native.Nat.{ℕ, zero, suc, ◌<◌}
use native.Mathlib.Omega.{arith}
use mathlib.Core.Bool.{Bool, true, false, ◌&&◌, ◌||◌, not, cond, or-false}
use mathlib.Core.List.{List}
use mathlib.Core.Option.{Option, some}
use Rattle.std.specs.Prelude.{Err}
use mathlib.Core.Path.{◌≡◌, refl, ap, ◌∙◌}
use lib.Dec.{leb, eqb}
use lib.ListN.{length}
use borrow.Author.Tests.{le-leb, leb-false}
use Rattle.octets.specs.Told.{Told, refused}
use Rattle.octets.specs.Tables.{first_of}
use Rattle.octets.proofs.Tables.{by-table}
use Rattle.octets.proofs.Tests.{cases}
use Rattle.provisioning.specs.Message.{choice_of, message_of, prohibited_capabilities, prohibited_choice, is_prohibited, judged, message_read, message_told, told}
use Rattle.provisioning.specs.Tables.{octet, prohibited_in_start, prohibited_in_capabilities, prohibited_in_failed, message_rows}
use Rattle.provisioning.specs.Promises.{MessageTable}
use Rattle.provisioning.specs.declared.MessageRefusal.TheVariants as R
use Rattle.provisioning.specs.declared.Message.{Message}
use Rattle.provisioning.proofs.Laws.{by-type}

-- ---- 45 in Start

-- what is asked of action and size, by the method
by-method : (method : ℕ) (a b : Bool)
    → (leb 4 method || (((eqb method 0 || eqb method 1) && a) || ((eqb method 2 || eqb method 3) && b))) ≡ (leb 4 method || cond (leb method 1) a b)
by-method zero a b = or-false a
by-method (suc zero) a b = or-false a
by-method (suc (suc zero)) a b = refl
by-method (suc (suc (suc zero))) a b = refl
by-method (suc (suc (suc (suc method)))) a b = rw (le-leb 4 (suc (suc (suc (suc method)))) (omega arith))

start-same : (m : List ℕ) → prohibited_in_start m ≡ prohibited_choice (choice_of m)
unfolding prohibited_choice
start-same m = ap (λ (t : Bool). leb 2 (octet m 2) || t) (by-method (octet m 3) (not (eqb (octet m 4) 0) || not (eqb (octet m 5) 0)) (eqb (octet m 5) 0))

-- ---- the first row that holds

-- a type of the list, by the length of its message and whether a value is prohibited
known : (m : List ℕ) (long : ℕ) (prohibited : Bool) (message : Message) → prohibited ≡ is_prohibited message
    → ◌≡◌ {A = Option Told}
    (cond (eqb (length m) 0) (some (refused 41))
    (cond (not (eqb (length m) long)) (some (refused 44)) (cond prohibited (some (refused 45)) (some (message_told message)))))
    (some (told (cond (eqb (length m) 0) (Err R.Empty) (cond (eqb (length m) long) (judged message) (Err R.WrongLength)))))
known m long prohibited message e =
    rw e
    (cases (eqb (length m) 0) (λ e. rw e)
    (λ e. rw e (cases (eqb (length m) long) (λ e. rw e (cases (is_prohibited message) (λ e. rw e) (λ e. rw e))) (λ e. rw e))))

module _ (m : List ℕ) where
  known-first : (type : ℕ) → type < 10 → octet m 0 ≡ type → first_of (message_rows m) ≡ some (told (message_read m))
  unfolding message_read message_of prohibited_capabilities
  known-first = by-type (λ (type : ℕ). octet m 0 ≡ type → first_of (message_rows m) ≡ some (told (message_read m)))
      (λ e. rw e (known m 2 false (message_of m 0) refl))
      (λ e. rw e (known m 12 _ (message_of m 1) (or-false (prohibited_in_capabilities m))))
      (λ e. rw e (known m 6 _ (message_of m 2) (or-false (prohibited_in_start m) ∙ start-same m)))
      (λ e. rw e (known m 65 false (message_of m 3) refl))
      (λ e. rw e (known m 1 false (message_of m 4) refl))
      (λ e. rw e (known m 17 false (message_of m 5) refl))
      (λ e. rw e (known m 17 false (message_of m 6) refl))
      (λ e. rw e (known m 34 false (message_of m 7) refl))
      (λ e. rw e (known m 1 false (message_of m 8) refl))
      (λ e. rw e (known m 2 (prohibited_in_failed m) (message_of m 9) refl))

  unknown-first : leb 10 (octet m 0) ≡ true → first_of (message_rows m) ≡ some (told (message_read m))
  unfolding message_read
  unknown-first unknown =
      cases (eqb (length m) 0) (λ e. rw e)
      (λ e. rw e (cases (leb 0x40 (octet m 0)) (λ e. rw e)
      (λ e. rw (e, unknown, le-leb (octet m 0) 0x3F (omega (arith, leb-false 0x40 (octet m 0) e))))))

pub message-table : MessageTable
message-table m =
    by-table (told (message_read m)) (message_rows m) refl
    (cases (leb 10 (octet m 0)) (λ e. unknown-first m e) (λ e. known-first m (octet m 0) (leb-false 10 (octet m 0) e) refl))
