-- What octets say as a message, by cases, and a list as the parts that the layout cuts it into.
use Prim.Native.Nat.{ℕ, zero, suc, ◌+◌, ◌/◌, ◌%◌, ◌<◌, ◌≤◌}
use native.Mathlib.Numerals.{add-one}
use native.Mathlib.Omega.{arith}
use mathlib.Core.List.{List, [], ◌∷◌, ◌++◌}
use mathlib.Core.Path.{◌≡◌, refl, sym}
use lib.Dec.{leb, eqb}
use lib.ListN.{length, get_or, drop, take-append-drop}
use lib.Seq.{drop-cons, drop-drop, drop-length}
use borrow.Author.Tests.{leb-false, eqb-true}
use Rattle.std.specs.Prelude.{Result, Ok, Err}
use Rattle.octets.specs.Numbers.{Octets, big16, octets16}
use Rattle.octets.specs.Parts.{part}
use Rattle.octets.proofs.Tests.{cases}
use Rattle.provisioning.specs.Layout.{sizes_of, sum, parameter_length}
use Rattle.provisioning.specs.Message.{type_of, message_of, is_prohibited, message_read}
use Rattle.provisioning.specs.declared.MessageRefusal.{MessageRefusal}
use Rattle.provisioning.specs.declared.MessageRefusal.TheVariants as R
use Rattle.provisioning.specs.declared.Message.{Message}

-- ---- cases

-- what is known of octets that are no refusal
pub record Read (m : List ℕ) (type : ℕ) : Type 0 where
  pub first : type_of m ≡ type
  pub long : length m ≡ 1 + parameter_length type

-- a message that was read is a refusal, or the message of its type
pub by-reading : (m : List ℕ) (P : Result Message MessageRefusal → Type 0) → ((r : MessageRefusal) → P (Err r))
    → (type_of m < 10 → Read m (type_of m) → P (Ok (message_of m (type_of m)))) → P (message_read m)
unfolding message_read
by-reading m P refused taken =
    let n = 1 + parameter_length (type_of m) in
    cases (eqb (length m) 0) (λ e. rw e (refused R.Empty)) (λ e. rw e
    (cases (leb 0x40 (type_of m)) (λ e. rw e (refused R.Padding)) (λ e. rw e
    (cases (leb 10 (type_of m)) (λ e. rw e (refused R.UnknownType)) (λ known. rw known
    (cases (eqb (length m) n)
    (λ long. rw long
    (cases (is_prohibited (message_of m (type_of m))) (λ e. rw e (refused R.Prohibited))
    (λ e. rw e (taken (leb-false 10 (type_of m) known) (record { first = refl; long = eqb-true (length m) n long })))))
    (λ e. rw e (refused R.WrongLength))))))))

-- the ten types
pub by-type : (P : ℕ → Type 0) → P 0 → P 1 → P 2 → P 3 → P 4 → P 5 → P 6 → P 7 → P 8 → P 9 → (t : ℕ) → t < 10 → P t
by-type P a b c d e f g h i j zero l = a
by-type P a b c d e f g h i j (suc zero) l = b
by-type P a b c d e f g h i j (suc (suc zero)) l = c
by-type P a b c d e f g h i j (suc (suc (suc zero))) l = d
by-type P a b c d e f g h i j (suc (suc (suc (suc zero)))) l = e
by-type P a b c d e f g h i j (suc (suc (suc (suc (suc zero))))) l = f
by-type P a b c d e f g h i j (suc (suc (suc (suc (suc (suc zero)))))) l = g
by-type P a b c d e f g h i j (suc (suc (suc (suc (suc (suc (suc zero))))))) l = h
by-type P a b c d e f g h i j (suc (suc (suc (suc (suc (suc (suc (suc zero)))))))) l = i
by-type P a b c d e f g h i j (suc (suc (suc (suc (suc (suc (suc (suc (suc zero))))))))) l = j
by-type P a b c d e f g h i j (suc (suc (suc (suc (suc (suc (suc (suc (suc (suc t)))))))))) l = absurd (omega arith)

-- ---- parts

-- parts of a list from a place on, one behind the other, by their sizes
abbrev pub parts : List ℕ → ℕ → List ℕ → List ℕ
parts m at [] = []
parts m at (n ∷ ns) = part m at n ++ parts m (at + n) ns

pub parts_all : (m : List ℕ) (at : ℕ) (sizes : List ℕ) → length m ≡ at + sum sizes → parts m at sizes ≡ drop at m
parts_all m at [] h = let e : at ≡ length m = omega arith in rw e (sym (drop-length m))
parts_all m at (n ∷ ns) h =
    rw (parts_all m (at + n) ns (omega arith), ← drop-drop n at m) (take-append-drop n (drop at m))

-- a message of a type is the type and the parts that the layout cuts it into
pub layout-all : (m : List ℕ) {type : ℕ} → Read m type → type ∷ parts m 1 (sizes_of type) ≡ m
layout-all m {type} r =
    rw (parts_all m 1 (sizes_of type) r.long, ← r.first) (sym (drop-cons m 0 0 (omega (arith, r.long))))

-- a part of one octet, and of two
pub one-part : (m : List ℕ) (at : ℕ) → at < length m → part m at 1 ≡ get_or m at 0 ∷ []
one-part m at h = rw (drop-cons m at 0 h)

pub two-part : (m : List ℕ) (at : ℕ) → Octets m → at + 2 ≤ length m → part m at 2 ≡ octets16 (big16 m at)
two-part m at o h =
    let e : get_or m (at + 1) 0 ≡ get_or m (suc at) 0 = rw (add-one at) in
    let hi : get_or m at 0 ≡ big16 m at / 256 = omega (arith, o (suc at)) in
    let lo : get_or m (suc at) 0 ≡ big16 m at % 256 = omega (arith, o (suc at)) in
    rw (drop-cons m at 0 (omega arith), drop-cons m (suc at) 0 (omega arith)) (λ i. hi i ∷ lo i ∷ [])
