-- Laws of a line that is a module's, and of the word that marks the channel's.
use Rattle.std.specs.Prelude.{Some, None}
use Prim.Native.Nat.{ℕ, ◌/◌, ◌%◌, ◌≤◌, ◌<◌}
use native.Mathlib.Omega.{arith}
use mathlib.Core.Bool.{true, false, false≢true}
use mathlib.Core.List.{List, [], ◌∷◌}
use mathlib.Core.Path.{◌≡◌, refl, sym, ap, ◌∙◌}
use lib.Dec.{leb, eqb}
use lib.Pointwise.{pointwise}
use Rattle.std.proofs.Common.{nat_eq}
use lib.ListN.{length, take, get_or, length-drop}
use lib.Seq.{get_or-take}
use borrow.Author.Tests.{le-leb, eq-eqb, leb-true, eqb-true}
use Rattle.octets.specs.Parts.{same}
use Rattle.octets.proofs.Tests.{cases, both_hold, length-out}
use Rattle.hexadecimal.specs.Hex.{is_hexadecimal, decoded_of, decoded_output}
use Rattle.std.specs.Prelude.{Ok}
use Rattle.hexadecimal.proofs.Readings.{read-octets, read-output}
use Rattle.log_lines.specs.Lines.{is_opening, socket_in, id_in, opening_of}
use Rattle.log_lines.specs.declared.Opening.{Opening}
use Rattle.rehearsal_lines.specs.Lines.{message_digits, is_module, is_held, module_of, module_room}
use Rattle.rehearsal_lines.specs.declared.Line.TheVariants.{Module, Other}

-- ---- openings

module _ (line : List ℕ) where
  opens : {o : Opening} → opening_of line ≡ Some o → (is_opening line ≡ true) × (socket_in line ≡ o.socket) × (id_in line ≡ o.id)
  unfolding opening_of
  opens {o} =
      cases (is_opening line)
      (λ p. rw p (λ e. let same : record { socket = socket_in line; id = id_in line } ≡ o = cc in
      (refl, ap (λ (x : Opening). x.socket) same, ap (λ (x : Opening). x.id) same)))
      (λ p. rw p (λ e. let z : ◌≡◌ {A = ℕ} 0 1 = cc in absurd (omega arith)))

  opens_not : opening_of line ≡ None → is_opening line ≡ false
  unfolding opening_of
  opens_not = cases (is_opening line) (λ p. rw p (λ e. let z : ◌≡◌ {A = ℕ} 0 1 = cc in absurd (omega arith))) (λ p e. p)

-- ---- modules

module _ (line room : List ℕ) where
  abbrev digits : List ℕ
  digits = message_digits line

  -- what a line of a module tells whose message the room holds
  pub held-so : is_held line room ≡ true
      → (is_opening (take 10 line) ≡ true)
      × (get_or line 10 0 ≡ 32)
      × (is_hexadecimal digits ≡ true)
      × (length digits % 2 ≡ 0)
      × (1 ≤ length digits / 2)
      × (length digits / 2 ≤ 1469)
      × (length digits / 2 ≤ length room)
  held-so e =
      let a = both_hold {a = is_module line} e in
      let b = both_hold {a = is_opening (take 10 line)} a.0 in
      let d = both_hold {a = eqb (get_or line 10 0) 32} b.1 in
      let f = both_hold {a = is_hexadecimal digits} d.1 in
      let g = both_hold {a = eqb (length digits % 2) 0} f.0 in
      let long = length-out (length digits / 2) f.1 in
      (b.0, eqb-true (get_or line 10 0) 32 d.0, f.0, eqb-true (length digits % 2) 0 g.0, long.0, long.1, leb-true (length digits / 2) (length room) a.1)

  not-held : (is_held line room ≡ true → ⊥) → (Other ≡ module_of line room) × (room ≡ module_room line room)
  unfolding module_of module_room
  not-held h = cases (is_held line room) (λ e. absurd (h e)) (λ e. rw e (refl, refl))

  pub too_short : length line < 13 → (Other ≡ module_of line room) × (room ≡ module_room line room)
  too_short h = not-held (λ e. omega (arith, held-so e, length-drop 11 line))

  pub too_long : 2949 < length line → (Other ≡ module_of line room) × (room ≡ module_room line room)
  too_long h = not-held (λ e. omega (arith, held-so e, length-drop 11 line))

  pub no-space : (get_or line 10 0 ≡ 32 → ⊥) → (Other ≡ module_of line room) × (room ≡ module_room line room)
  no-space h = not-held (λ e. h (held-so e).1)

  pub no-opening : opening_of (take 10 line) ≡ None → (Other ≡ module_of line room) × (room ≡ module_room line room)
  no-opening h = not-held (λ e. false≢true (sym (opens_not (take 10 line) h) ∙ (held-so e).0))

  -- digits that are read into the room
  reads : is_hexadecimal digits ≡ true → length digits / 2 ≤ length room → decoded_of digits room ≡ Ok (length digits / 2)
  unfolding decoded_of
  reads p h = rw (p, le-leb (length digits / 2) (length room) h)

  unread-room : ((n : ℕ) → decoded_of digits room ≡ Ok n → ⊥) → decoded_output digits room ≡ room
  unfolding decoded_output
  unread-room h =
      cases (is_hexadecimal digits)
      (λ p. rw p (cases (leb (length digits / 2) (length room))
      (λ q. absurd (h (length digits / 2) (reads p (leb-true (length digits / 2) (length room) q))))
      (λ q. rw q)))
      (λ p. rw p)

  pub no-message : ((n : ℕ) → decoded_of digits room ≡ Ok n → ⊥) → (Other ≡ module_of line room) × (decoded_output digits room ≡ module_room line room)
  no-message h =
      let none = not-held (λ e. h _ (reads (held-so e).2 (held-so e).6)) in
      (none.0, unread-room h ∙ none.1)

  module _ (short : 13 ≤ length line) (long : length line ≤ 2949) (space : get_or line 10 0 ≡ 32) where
    pub a-module : {o : Opening} {n : ℕ} → opening_of (take 10 line) ≡ Some o → decoded_of digits room ≡ Ok n
        → (Module o.socket o.id n ≡ module_of line room) × (decoded_output digits room ≡ module_room line room)
    unfolding module_of module_room
    a-module p q =
        let o = opens (take 10 line) p in
        let r = read-octets digits room q in
        let some : 1 ≤ length digits / 2 = omega (arith, length-drop 11 line) in
        let few : length digits / 2 ≤ 1469 = omega (arith, length-drop 11 line) in
        let holds : length digits / 2 ≤ length room = omega arith in
        let held : is_held line room ≡ true =
        rw (o.0, eq-eqb (get_or line 10 0) 32 space, r.0, le-leb 1 (length digits / 2) some, le-leb (length digits / 2) 1469 few, le-leb (length digits / 2) (length room) holds) refl in
        let first : socket_in line ≡ socket_in (take 10 line) = rw (get_or-take 10 line 0 0 (omega arith)) in
        (rw (held, first, o.1, o.2, r.1), rw held (read-output digits room q))

-- ---- the channel's word

-- the library's test of two texts is that of the definitions
pub texts-compared : (l m : List ℕ) → pointwise nat_eq l m ≡ same l m
texts-compared [] [] = refl
texts-compared [] (y ∷ m) = refl
texts-compared (x ∷ l) [] = refl
texts-compared (x ∷ l) (y ∷ m) = rw (texts-compared l m) refl
