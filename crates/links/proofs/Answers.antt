-- An answer by its word is one case.
use Prim.Native.Nat.{ℕ}
use Rattle.links.specs.declared.Answer.{Answer}
use Rattle.links.specs.declared.Refusal.{Refusal}
use Rattle.std.specs.Prelude.{Result, Ok, Err}
use mathlib.Core.List.{List, [], ◌∷◌}
use mathlib.Core.Path.{◌≡◌, refl, sym, ◌∙◌}
use Rattle.octets.specs.Told.{answered}
use Rattle.octets.proofs.Tables.{other-told}
use Rattle.transactions.specs.declared.TransactionNumber.{TransactionNumber}
use Rattle.links.specs.Links.{told}
use Rattle.links.specs.declared.Answer.TheVariants as A

-- "delivered" with its length and number
pub record IsDelivered (a : Result Answer Refusal) (values : List ℕ) : Type 0 where
  pub long : ℕ
  pub number : TransactionNumber
  pub is : a ≡ Ok (A.Delivered long number)
  pub values-are : values ≡ long ∷ number.0 ∷ []

pub delivered-told : (a : Result Answer Refusal) (values : List ℕ) → told a ≡ answered "delivered" values → IsDelivered a values
delivered-told (Err r) values e = other-told _ _ refl e
delivered-told (Ok A.AcknowledgeAgain) values e = other-told _ _ refl e
delivered-told (Ok A.Kept) values e = other-told _ _ refl e
delivered-told (Ok A.Repeat) values e = other-told _ _ refl e
delivered-told (Ok (A.Delivered n t)) values e = record { long = n; number = t; is = refl; values-are = cc }
delivered-told (Ok A.Opened) values e = other-told _ _ refl e
delivered-told (Ok A.Already) values e = other-told _ _ refl e
delivered-told (Ok (A.Closed reason)) values e = other-told _ _ refl e
delivered-told (Ok A.Acknowledged) values e = other-told _ _ refl e
delivered-told (Ok (A.Sending t n)) values e = other-told _ _ refl e
delivered-told (Ok A.Done) values e = other-told _ _ refl e

pub delivered-with : {a : Result Answer Refusal} {n : ℕ} {t : TransactionNumber} → told a ≡ answered "delivered" (n ∷ t.0 ∷ []) → a ≡ Ok (A.Delivered n t)
delivered-with {a} {n} {t} e =
    let d = delivered-told a _ e in
    let v = d.values-are in
    let p : n ≡ d.long = cc in
    let q : t.0 ≡ d.number.0 = cc in
    d.is ∙ (λ i. Ok (A.Delivered (sym p i) (record { 0 = sym q i })))
