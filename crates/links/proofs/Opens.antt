-- An Open at a device's link: it is refused and changes nothing, finds its link open, or opens it.
use Prim.Native.Nat.{ℕ}
use Rattle.links.specs.declared.Answer.{Answer}
use Rattle.std.specs.Prelude.{Result, Ok, Err}
use mathlib.Core.Bool.{false}
use mathlib.Core.List.{List}
use mathlib.Core.Path.{◌≡◌, refl}
use lib.Dec.{eqb}
use Rattle.octets.specs.Parts.{part, same}
use Rattle.octets.proofs.Parts.{same-exactly}
use Rattle.octets.proofs.Tests.{cases}
use Rattle.links.specs.Links.{blank_with, in_use, refusal_number}
use Rattle.links.specs.Segments.{OneLink}
use Rattle.links.specs.Station.{set_link, open_step}
use Rattle.links.specs.declared.Side.TheVariants.{Device}
use Rattle.links.specs.declared.LinkState.TheVariants as S
use Rattle.links.specs.declared.Refusal.{Refusal}
use Rattle.links.specs.declared.Refusal.TheVariants as R
use Rattle.links.specs.declared.Answer.TheVariants as A

pub data Opens (own : List ℕ) (x : OneLink) (f : List ℕ) (id uuid : ℕ) (q : Result Answer Refusal × OneLink) : Type 0 where
  refuses : (r : Refusal) → eqb (refusal_number r) 8 ≡ false → q ≡ (Err r, x) → Opens own x f id uuid q
  finds : q ≡ (Ok A.Already, x) → Opens own x f id uuid q
  begins : part f uuid 16 ≡ own → in_use x.link.state ≡ false → q ≡ (Ok A.Opened, set_link x (blank_with Device S.Open id)) → Opens own x f id uuid q

module _ (own : List ℕ) (x : OneLink) (f : List ℕ) (id uuid : ℕ) where
  pub openings : Opens own x f id uuid (open_step own x f id uuid)
  unfolding open_step
  openings =
      cases (same (part f uuid 16) own)
      (λ e. rw e (cases (in_use x.link.state)
      (λ u. rw u (cases (eqb x.link.id id) (λ q. rw q (finds refl)) (λ q. rw q (refuses R.Busy refl refl))))
      (λ u. rw u (begins ((same-exactly (part f uuid 16) own).0 e) u refl))))
      (λ e. rw e (refuses R.OtherUuid refl refl))

  -- so what holds of the link, and of the one that it opens, holds afterwards
  pub open-holds : (H : OneLink → Type 0) → H x → (in_use x.link.state ≡ false → H (set_link x (blank_with Device S.Open id))) → H (open_step own x f id uuid).1
  open-holds H same opened = of openings
    where
      of : {q : Result Answer Refusal × OneLink} → Opens own x f id uuid q → H q.1
      of (refuses r n e) = rw e same
      of (finds e) = rw e same
      of (begins u n e) = rw e (opened n)
