-- A law of the reading of frames.
use Prim.Native.Nat.{ℕ, ◌+◌, ◌≤◌, min}
use mathlib.Core.Bool.{true}
use mathlib.Core.List.{List}
use mathlib.Core.Path.{◌≡◌}
use lib.ListN.{length}
use borrow.Author.Tests.{leb-true, eqb-true}
use Rattle.octets.specs.Numbers.{big16}
use Rattle.octets.proofs.Tests.{both_hold}
use Rattle.transactions.specs.Segments.{seg_n}
use Rattle.pb_adv.specs.Frame.{is_start, high_bits}

-- what a Start that fits its kind tells
pub record StartFits (f : List ℕ) : Type 0 where
  pub some-octets : 1 ≤ big16 f 6
  pub few-octets : big16 f 6 ≤ 1469
  pub last : high_bits f ≡ seg_n (big16 f 6)
  pub long : length f ≡ 9 + min 20 (big16 f 6)

pub start_fits_lem : (f : List ℕ) → is_start f ≡ true → StartFits f
unfolding is_start
start_fits_lem f e =
    let a = both_hold e in
    let b = both_hold a.0 in
    let d = both_hold a.1 in
    record { some-octets = leb-true 1 (big16 f 6) b.0; few-octets = leb-true (big16 f 6) 1469 b.1; last = eqb-true (high_bits f) (seg_n (big16 f 6)) d.0; long = eqb-true (length f) (9 + min 20 (big16 f 6)) d.1 }
