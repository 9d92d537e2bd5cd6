-- Laws of the channel's line: the fields between its spaces, and its numbers.
use Rattle.std.specs.Prelude.{Some, None, position}
use Rattle.std.specs.List.{position_or_len}
use Rattle.std.specs.Option.{unwrap_or}
use Prim.Native.Nat.{ℕ, ◌+◌, ◌-◌, ◌≤◌}
use native.Mathlib.Omega.{arith}
use mathlib.Core.Bool.{false}
use mathlib.Core.List.{List, [], ◌∷◌}
use mathlib.Core.Path.{◌≡◌, refl, ap, ◌∙◌}
use lib.Dec.{eqb, ltb}
use borrow.Author.Tests.{ltb-false}
use lib.ListN.{length, take, drop, length-drop, drop_of_length-le}
use lib.Seq.{take_all}
use Rattle.octets.proofs.Tests.{cases}
use Rattle.rehearsal_lines.specs.Lines.{is_decimal, decimal_read, field, behind, rates_of, settings_of}
use Rattle.rehearsal_lines.specs.declared.Line.TheVariants.{Channel, Other}
use Rattle.rehearsal_lines.proofs.Numbers.{told-nothing, told-number}

-- the first field ends before the first space, or with the text
field-place : (text : List ℕ) → (position_or_len (λ c. eqb c 32) text ≡ length (field text)) × (length (field text) ≤ length text)
field-place [] = (refl, omega arith)
field-place (c ∷ text) =
    let rest = field-place text in
    cases (eqb c 32) (λ e. rw e (refl, omega arith)) (λ e. rw e (omega (arith, rest), omega (arith, rest)))

pub field-ends : (text : List ℕ) → let n = unwrap_or (position (λ c. eqb c 32) text) (length text) in (n ≡ length (field text)) × (n ≤ length text)
field-ends text =
    let f = field-place text in
    cases (ltb (position_or_len (λ c. eqb c 32) text) (length text))
    (λ p. rw p (f.0, omega (arith, f)))
    (λ p. let many = ltb-false (position_or_len (λ c. eqb c 32) text) (length text) p in
    rw p (omega (arith, f), omega arith))

-- the first field is a front
field-front : (text : List ℕ) → take (length (field text)) text ≡ field text
field-front [] = refl
field-front (c ∷ text) = cases (eqb c 32) (λ e. rw e) (λ e. rw e (ap (λ (t : List ℕ). c ∷ t) (field-front text)))

-- all that stands behind a place
pub all-behind : (n : ℕ) (text : List ℕ) → take (length text - n) (drop n text) ≡ drop n text
all-behind n text = take_all (length text - n) (drop n text) (omega (arith, length-drop n text))

-- a text cut at the length of its first field
module _ (text : List ℕ) (n : ℕ) (e : n ≡ length (field text)) where
  pub cut-front : take n text ≡ field text
  cut-front = rw e (field-front text)

  pub cut-behind : take (length text - (n + 1)) (drop (n + 1) text) ≡ behind text
  cut-behind = all-behind (n + 1) text ∙ rw e

  -- nothing stands behind a field that reaches the end
  pub cut-nothing : length text ≤ n → behind text ≡ []
  cut-nothing h = drop_of_length-le text {i = length (field text) + 1} (omega arith)

-- ---- the rates

module _ (seed : ℕ) (rates : List ℕ) where
  pub lost-wrong : decimal_read (field rates) 100 ≡ None → Other ≡ rates_of seed rates
  unfolding rates_of
  lost-wrong e = rw (told-nothing (field rates) 100 e)

  wrong-behind : is_decimal (behind rates) 100 ≡ false → Other ≡ rates_of seed rates
  unfolding rates_of
  wrong-behind e = rw e (cases (is_decimal (field rates) 100) (λ p. rw p) (λ p. rw p))

  pub repeated-wrong : decimal_read (behind rates) 100 ≡ None → Other ≡ rates_of seed rates
  repeated-wrong e = wrong-behind (told-nothing (behind rates) 100 e)

  pub repeated-missing : behind rates ≡ [] → Other ≡ rates_of seed rates
  repeated-missing e = wrong-behind (rw e)

  pub rates-right : {lost repeated : ℕ} → decimal_read (field rates) 100 ≡ Some lost → decimal_read (behind rates) 100 ≡ Some repeated
      → Channel seed lost repeated ≡ rates_of seed rates
  unfolding rates_of
  rates-right p q =
      let l = told-number (field rates) 100 p in
      let r = told-number (behind rates) 100 q in
      rw (l.0, r.0, l.1, r.1)

-- ---- the seed

module _ (settings : List ℕ) where
  pub seed-wrong : decimal_read (field settings) 4294967295 ≡ None → Other ≡ settings_of settings
  unfolding settings_of
  seed-wrong e = rw (told-nothing (field settings) 4294967295 e)

  pub rates-missing : behind settings ≡ [] → Other ≡ settings_of settings
  unfolding settings_of rates_of
  rates-missing e = rw e (cases (is_decimal (field settings) 4294967295) (λ p. rw p) (λ p. rw p))

  pub seed-right : {seed : ℕ} → decimal_read (field settings) 4294967295 ≡ Some seed → rates_of seed (behind settings) ≡ settings_of settings
  unfolding settings_of
  seed-right e = let s = told-number (field settings) 4294967295 e in rw (s.0, s.1)
