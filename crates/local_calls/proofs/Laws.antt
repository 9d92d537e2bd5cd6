-- 11 and 14, which come first on every local call, over the eight records; `right count` is the test of its arguments for so many sockets.
use Prim.Native.Nat.{ℕ}
use Rattle.links.specs.declared.Answer.{Answer}
use Rattle.links.specs.declared.Refusal.{Refusal}
use Rattle.std.specs.Prelude.{Result}
use mathlib.Core.Bool.{Bool, true, false}
use mathlib.Core.List.{List}
use mathlib.Core.Path.{◌≡◌}
use lib.ListN.{length}
use Rattle.links.specs.Good.{good}
use Rattle.links.specs.Station.{judged}
use Rattle.links.specs.declared.Side.TheVariants.{Provisioner}
use Rattle.links.specs.declared.Link.{Link}
use Rattle.links.specs.declared.Refusal.TheVariants as R
use Rattle.link_records.specs.Records.{call_refused}
use Rattle.local_calls.specs.Calls.{called_of}

module _ (links : List Link) (right : ℕ → Bool) (step : Result Answer Refusal × List Link) (n : length links ≡ 8) where
  pub judged-wrong : right 8 ≡ false → called_of (judged Provisioner links (right (length links)) step) ≡ call_refused links R.WrongArgument
  judged-wrong e = rw (n, e)

  pub judged-bad : right 8 ≡ true → good Provisioner links ≡ false → called_of (judged Provisioner links (right (length links)) step) ≡ call_refused links R.BadState
  judged-bad e g = rw (n, e, g)

  pub judged-right : right 8 ≡ true → good Provisioner links ≡ true → called_of (judged Provisioner links (right (length links)) step) ≡ called_of step
  judged-right e g = rw (n, e, g)
