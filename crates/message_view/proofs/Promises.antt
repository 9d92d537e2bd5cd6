-- The promises of `specs/Promises.antt`.
use Prim.Native.Nat.{ℕ, ◌+◌, ◌<◌}
use native.Mathlib.Omega.{arith}
use mathlib.Core.List.{List, [], ◌∷◌, map}
use mathlib.Core.Path.{◌≡◌, refl, sym, ◌∙◌, ap}
use lib.Dec.{eqb}
use lib.ListN.{length}
use borrow.Author.Tests.{le-leb, eqb-true}
use Rattle.std.specs.Prelude.{Result, Ok}
use Rattle.octets.specs.Told.{Told, refused, answered}
use Rattle.octets.proofs.Tests.{cases}
use Rattle.provisioning.specs.Layout.{sizes_of, sum}
use Rattle.provisioning.specs.Message.{type_of, message_of, message_told, told as read_told}
use Rattle.provisioning.specs.declared.Message.{Message}
use Rattle.provisioning.specs.declared.MessageRefusal.{MessageRefusal}
use Rattle.provisioning.proofs.Laws.{by-reading, by-type}
use Rattle.message_view.specs.Reading.{size_of, value_at, field_at, told}
use Rattle.message_view.specs.Promises.{wanted_size, read_all, read_to, fields_told, SameFields, ViewReadsFields}
use Rattle.message_view.specs.declared.Step.{Step}
use Rattle.message_view.specs.declared.FieldRead.{FieldRead}
use Rattle.message_view.specs.declared.PastEnd.{PastEnd}

-- a field that is asked for by its size has that size
size_back : (n : ℕ) → size_of (wanted_size n) ≡ n
size_back n =
    cases (eqb n 1) (λ e. rw e (sym (eqb-true n 1 e)))
    (λ e. rw e (cases (eqb n 2) (λ g. rw g (sym (eqb-true n 2 g))) (λ g. rw g)))

-- the values at the places that sizes give, one behind the other
abbrev values : List ℕ → ℕ → List ℕ → List (Result FieldRead PastEnd)
values m place [] = []
values m place (n ∷ ns) = Ok (value_at m place (wanted_size n)) ∷ values m (place + n) ns

-- within the message, each read gives its value and moves over it
step_of : (m : List ℕ) (place n : ℕ) → place + n < 1 + length m → field_at m place (wanted_size n) ≡ record { next = place + n; field = Ok (value_at m place (wanted_size n)) }
unfolding field_at
step_of m place n h = rw (size_back n, le-leb (place + n) (length m) (omega arith))

read-values : (m : List ℕ) (place : ℕ) (sizes : List ℕ) → length m ≡ place + sum sizes
    → (read_all m place (map wanted_size sizes) ≡ values m place sizes) × (read_to m place (map wanted_size sizes) ≡ length m)
read-values m place [] h = (refl, omega arith)
read-values m place (n ∷ ns) h =
    let e = step_of m place n (omega arith) in
    let r = read-values m (place + n) ns (omega arith) in
    (rw e (rw r.0), ap (λ (s : Step). read_to m s.next (map wanted_size ns)) e ∙ r.1)

-- the values of an answer
abbrev values_of : Told → List ℕ
values_of (refused n) = []
values_of (answered word vs) = vs

-- those of a type's layout are the values of its message
same-values : (m : List ℕ) (type : ℕ) → type < 10 → map told (values m 1 (sizes_of type)) ≡ fields_told (sizes_of type) (values_of (message_told (message_of m type)))
unfolding message_of
same-values m = by-type (λ (type : ℕ). map told (values m 1 (sizes_of type)) ≡ fields_told (sizes_of type) (values_of (message_told (message_of m type))))
    refl refl refl refl refl refl refl refl refl refl

pub view-reads-fields : ViewReadsFields
view-reads-fields m name vs =
    by-reading m (λ (x : Result Message MessageRefusal). read_told x ≡ answered name vs → SameFields m vs)
    (λ r e. let z : ◌≡◌ {A = ℕ} 0 1 = cc in absurd (omega arith))
    (λ h r e. let v = read-values m 1 (sizes_of (type_of m)) r.long in
    record { fields = ap (map told) v.0 ∙ same-values m _ h ∙ ap (λ (t : Told). fields_told (sizes_of (type_of m)) (values_of t)) e; end = v.1 })
