-- The table and the status of `specs/Tables.antt`.
use Prim.Native.Nat.{ℕ, ◌-◌, ◌%◌}
use native.Mathlib.Omega.{arith}
use mathlib.Core.Bool.{false, ◌&&◌, ◌||◌, not}
use mathlib.Core.List.{List}
use mathlib.Core.Option.{some, none}
use mathlib.Core.Path.{◌≡◌, refl, ◌∙◌}
use lib.Dec.{leb, ltb, eqb}
use lib.ListN.{length, get_or}
use borrow.Author.Tests.{lt-ltb, eqb-true, eqb-false}
use Rattle.octets.specs.Told.{refused}
use Rattle.octets.specs.Tables.{first_of}
use Rattle.octets.proofs.Tables.{by-table, first-behind, first-before}
use Rattle.octets.proofs.Tests.{cases, lt_not_le, not-both}
use Rattle.filter_messages.specs.Messages.{type_of, change_of, request_of, type_number, refusal_number, request_told}
use Rattle.filter_messages.specs.Tables.{message_refusals, requests, request_rows, RequestTable, AllStatusesSay}
use Rattle.filter_messages.specs.declared.FilterType.{FilterType}
use Rattle.filter_messages.specs.declared.FilterType.TheVariants.{AcceptList, RejectList}
use Rattle.filter_messages.specs.declared.Change.{Change}
use Rattle.filter_messages.specs.declared.Change.TheVariants.{Add, Remove}
use Rattle.std.specs.Prelude.{Result, Ok, Err}
use Rattle.filter_messages.specs.declared.Request.{Request}
use Rattle.filter_messages.specs.declared.Request.TheVariants as Q
use Rattle.filter_messages.specs.declared.FilterRefusal.{FilterRefusal}
use Rattle.filter_messages.specs.declared.FilterRefusal.TheVariants as R

abbrev opcode_of : Change → ℕ
opcode_of Add = 1
opcode_of Remove = 2

-- what a message asks for, by the rows of its refusals, its opcode and its type
pub data Asks (m : List ℕ) : Result Request FilterRefusal → Type 0 where
  refuses : (r : FilterRefusal) → first_of (message_refusals m) ≡ some (refused (refusal_number r)) → Asks m (Err r)
  sets : (kind : FilterType) → first_of (message_refusals m) ≡ none → get_or m 0 0 ≡ 0 → get_or m 1 0 ≡ type_number kind → Asks m (Ok (Q.SetType kind))
  changes : (c : Change) → first_of (message_refusals m) ≡ none → get_or m 0 0 ≡ opcode_of c → Asks m (Ok (Q.Change c))

asks-type : (m : List ℕ) → eqb (length m) 0 ≡ false → get_or m 0 0 ≡ 0 → Asks m (type_of m)
unfolding type_of
asks-type m some-octet o =
    cases (eqb (length m - 1) 1)
    (λ l. rw l (cases (eqb (get_or m 1 0) 0)
    (λ e. let t = eqb-true (get_or m 1 0) 0 e in rw e (sets AcceptList (rw (some-octet, o, l, t)) o t))
    (λ e. rw e (cases (eqb (get_or m 1 0) 1)
    (λ f. let t = eqb-true (get_or m 1 0) 1 f in rw f (sets RejectList (rw (some-octet, o, l, t)) o t))
    (λ f. rw f (refuses R.UnknownType (rw (some-octet, o, l, lt-ltb 1 (get_or m 1 0) (omega (arith, eqb-false (get_or m 1 0) 0 e, eqb-false (get_or m 1 0) 1 f))))))))))
    (λ l. rw l (refuses R.WrongLength (rw (some-octet, o, l))))

-- "any even number of octets up to 32"
not-even : (n : ℕ) → (ltb 32 n || not (eqb (n % 2) 0)) ≡ not (leb n 32 && eqb (n % 2) 0)
not-even n = rw (lt_not_le 32 n, not-both (leb n 32) (eqb (n % 2) 0))

asks-change : (c : Change) (m : List ℕ) → eqb (length m) 0 ≡ false → ltb 2 (get_or m 0 0) ≡ false → eqb (get_or m 0 0) 0 ≡ false → get_or m 0 0 ≡ opcode_of c
    → Asks m (change_of c m)
unfolding change_of
asks-change c m some-octet known not-zero o =
    cases (leb (length m - 1) 32 && eqb ((length m - 1) % 2) 0)
    (λ e. rw e (changes c (rw (some-octet, known, not-zero, not-even (length m - 1), e)) o))
    (λ e. rw e (refuses R.WrongLength (rw (some-octet, known, not-zero, not-even (length m - 1), e))))

pub asks : (m : List ℕ) → Asks m (request_of m)
unfolding request_of
asks m =
    cases (eqb (length m) 0)
    (λ e. rw e (refuses R.Empty (rw e)))
    (λ l. rw l (cases (eqb (get_or m 0 0) 0)
    (λ e. rw e (asks-type m l (eqb-true (get_or m 0 0) 0 e)))
    (λ z. rw z (cases (eqb (get_or m 0 0) 1)
    (λ e. let o = eqb-true (get_or m 0 0) 1 e in rw e (asks-change Add m l (rw o) z o))
    (λ f. rw f (cases (eqb (get_or m 0 0) 2)
    (λ e. let o = eqb-true (get_or m 0 0) 2 e in rw e (asks-change Remove m l (rw o) z o))
    (λ g. rw g (refuses R.UnknownOpcode
    (rw (l, lt-ltb 2 (get_or m 0 0) (omega (arith, eqb-false (get_or m 0 0) 0 z, eqb-false (get_or m 0 0) 1 f, eqb-false (get_or m 0 0) 2 g))))))))))))

first-row : (m : List ℕ) (q : Result Request FilterRefusal) → Asks m q → first_of (request_rows m) ≡ some (request_told q)
first-row m q (refuses r e) = first-before (message_refusals m) (requests m) (refused (refusal_number r)) e
first-row m q (sets kind e o t) = first-behind (message_refusals m) (requests m) e ∙ rw (o, t)
first-row m q (changes Add e o) = first-behind (message_refusals m) (requests m) e ∙ rw o
first-row m q (changes Remove e o) = first-behind (message_refusals m) (requests m) e ∙ rw o

pub request-table : RequestTable
request-table m = by-table (request_told (request_of m)) (request_rows m) refl (first-row m (request_of m) (asks m))

pub all-statuses-say : AllStatusesSay
all-statuses-say count = record { accept = refl; reject = refl }
