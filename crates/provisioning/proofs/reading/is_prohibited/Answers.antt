-- Message by message; the arm of all others says that it is none of those with a rule.
use Prim.Native.Nat.{ℕ}
use mathlib.Core.Bool.{false}
use mathlib.Core.Path.{◌≡◌, refl}
use Rattle.provisioning.specs.Message.{is_prohibited}
use Rattle.provisioning.specs.declared.Message.TheVariants as M
use Rattle.provisioning.specs.declared.Message.{Message}
use Rattle.provisioning.specs.declared.Capabilities.{Capabilities}
use Rattle.provisioning.specs.declared.Choice.{Choice}
use Rattle.provisioning.proofs.reading.is_prohibited.Goals as goal

-- the messages without a rule
no-rule : (m : Message) → ((a : Capabilities) → m ≡ M.Capabilities a → ⊥) → ((a : Choice) → m ≡ M.Start a → ⊥) → ((a : ℕ) → m ≡ M.Failed a → ⊥) → false ≡ is_prohibited m
no-rule (M.Invite a) p q r = refl
no-rule (M.Capabilities a) p q r = absurd (p a refl)
no-rule (M.Start a) p q r = absurd (q a refl)
no-rule (M.PublicKey x y) p q r = refl
no-rule M.InputComplete p q r = refl
no-rule (M.Confirmation x) p q r = refl
no-rule (M.Random x) p q r = refl
no-rule (M.Data x y) p q r = refl
no-rule M.Complete p q r = refl
no-rule (M.Failed a) p q r = absurd (r a refl)

pub returns-in-Capabilities : goal.returns-in-Capabilities
returns-in-Capabilities c = simp (c.in-Capabilities.is, c.prohibited_capabilities.ensures)

pub returns-in-Start : goal.returns-in-Start
returns-in-Start c = simp (c.in-Start.is, c.prohibited_choice.ensures)

pub returns-in-Failed : goal.returns-in-Failed
returns-in-Failed c = simp c.in-Failed.is

pub returns-in_default : goal.returns-in_default
returns-in_default c = let d = c.in_default in no-rule c.args.message d.not-Capabilities d.not-Start d.not-Failed
