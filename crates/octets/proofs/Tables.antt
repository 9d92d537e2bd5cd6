-- From the first row that holds to each row of a table (`specs/Tables.antt`).
use Prim.Native.Nat.{ℕ}
use mathlib.Core.Bool.{Bool, true, false, ◌&&◌, ◌||◌, not, false≢true, or-true}
use mathlib.Core.List.{List, [], ◌∷◌, ◌++◌}
use mathlib.Core.Logic.{◌↔◌}
use mathlib.Core.Option.{some, none}
use mathlib.Core.Path.{◌≡◌, refl, sym, ap, ◌∙◌}
use native.Mathlib.Omega.{arith}
use lib.Dec.{eqb}
use borrow.Author.Tests.{eq-eqb}
use text.Mathlib.Text.{◌==◌}
use text.Mathlib.TextPositions.{eq_refl}
use Rattle.octets.specs.Told.{Told, refused, answered}
use Rattle.octets.specs.Tables.{Row, first_of, none_holds, ByTable}
use Rattle.octets.proofs.Tests.{cases, both_hold}

-- one number, or one word
abbrev pub alike : Told → Told → Bool
alike (refused m) (refused n) = eqb m n
alike (refused m) (answered word values) = false
alike (answered word values) (refused n) = false
alike (answered v values) (answered w others) = v == w

alike_self : (a : Told) → alike a a ≡ true
alike_self (refused n) = eq-eqb n n refl
alike_self (answered word values) = eq_refl word

-- two answers of other numbers or words
pub other-told : {B : Type 0} (a b : Told) → alike a b ≡ false → a ≡ b → B
other-told a b n e = absurd (false≢true (sym n ∙ sym (ap (alike a) e) ∙ alike_self a))

abbrev pub among : Told → List Row → Bool
among a [] = false
among a (r ∷ rows) = alike a r.answer || among a rows

-- no two rows have one number or one word
abbrev pub distinct : List Row → Bool
distinct [] = true
distinct (r ∷ rows) = not (among r.answer rows) && distinct rows

first-among : (rows : List Row) (a : Told) → first_of rows ≡ some a → among a rows ≡ true
first-among [] a e = let z : ◌≡◌ {A = ℕ} 0 1 = cc in absurd (omega arith)
first-among (r ∷ rows) a e =
    cases r.holds
    (λ h. let q : some r.answer ≡ some a = rw h at e in let w : r.answer ≡ a = cc in rw (w, alike_self a))
    (λ h. rw (first-among rows a (rw h at e)) (or-true (alike a r.answer)))

among-mid : (earlier : List Row) (r : Row) (later : List Row) → among r.answer (earlier ++ (r ∷ later)) ≡ true
among-mid [] r later = rw (alike_self r.answer)
among-mid (q ∷ earlier) r later = rw (among-mid earlier r later) (or-true (alike r.answer q.answer))

exactly-first : (earlier : List Row) (r : Row) (later : List Row) → distinct (earlier ++ (r ∷ later)) ≡ true
    → (first_of (earlier ++ (r ∷ later)) ≡ some r.answer) ↔ ((r.holds ≡ true) × (none_holds earlier ≡ true))
exactly-first [] r later d = (
  λ e. cases r.holds (λ h. (h, refl))
      (λ h. absurd (false≢true (rw (first-among later r.answer (rw h at e)) at (both_hold {a = not (among r.answer later)} {b = distinct later} d).0))),
  λ p. rw p.0,
)
exactly-first (q ∷ earlier) r later d =
    let w = both_hold {a = not (among q.answer (earlier ++ (r ∷ later)))} {b = distinct (earlier ++ (r ∷ later))} d in
    let i = exactly-first earlier r later w.1 in (
      λ e. cases q.holds
          (λ h. let u : some q.answer ≡ some r.answer = rw h at e in
          let v : q.answer ≡ r.answer = cc in
          absurd (false≢true (rw (v, among-mid earlier r later) at w.0)))
          (λ h. let u = i.0 (rw h at e) in (u.0, rw (h, u.1))),
      λ p. let b = both_hold {a = not q.holds} {b = none_holds earlier} p.1 in
          cases q.holds (λ h. absurd (false≢true (rw h at b.0))) (λ h. rw h (i.1 (p.0, b.1))),
    )

-- a table whose rows differ: the first row that holds says it all
pub by-table : (told : Told) (rows : List Row) → distinct rows ≡ true → first_of rows ≡ some told → ByTable told rows
by-table told rows d e = record {
  first = e;
  exactly = λ earlier r later split.
      let i = exactly-first earlier r later (rw (← split) d) in (
        λ q. i.0 (ap first_of (sym split) ∙ e ∙ ap some q),
        λ p. let u : some told ≡ some r.answer = sym e ∙ ap first_of split ∙ i.1 p in let v : told ≡ r.answer = cc in v,
      );
}

-- rows after others: theirs count where none of the others holds
pub first-behind : (rows later : List Row) → first_of rows ≡ none → first_of (rows ++ later) ≡ first_of later
first-behind [] later e = refl
first-behind (r ∷ rows) later e =
    cases r.holds
    (λ h. let q : some r.answer ≡ none = rw h at e in let z : ◌≡◌ {A = ℕ} 0 1 = cc in absurd (omega arith))
    (λ h. rw h (first-behind rows later (rw h at e)))

pub first-before : (rows later : List Row) (a : Told) → first_of rows ≡ some a → first_of (rows ++ later) ≡ some a
first-before [] later a e = let z : ◌≡◌ {A = ℕ} 0 1 = cc in absurd (omega arith)
first-before (r ∷ rows) later a e =
    cases r.holds
    (λ h. rw h (rw h at e))
    (λ h. rw h (first-before rows later a (rw h at e)))
