-- Laws of the receiving call: the part that is lent, 11 and 14, and the record that is found.
use Prim.Native.Nat.{ℕ, ◌+◌, ◌*◌, ◌<◌}
use Rattle.std.specs.Prelude.{Option, Some, None, Err}
use native.Mathlib.Omega.{arith}
use mathlib.Core.Bool.{true, false}
use mathlib.Core.List.{List, ◌++◌, append_assoc}
use mathlib.Core.Path.{◌≡◌, refl, sym, ap, ◌∙◌}
use lib.ListN.{length, take, drop, get_or, set}
use lib.Seq.{drop-drop}
use borrow.Author.Tests.{eq-eqb, ne_eqb}
use Rattle.octets.specs.Parts.{write}
use Rattle.pb_adv.specs.Frame.{link_id}
use Rattle.links.specs.Links.{provisioner, find}
use Rattle.links.specs.Good.{good}
use Rattle.links.specs.Station.{no_link, get_link, put_link, is_right, received}
use Rattle.links.specs.declared.Side.TheVariants.{Provisioner}
use Rattle.links.specs.declared.Link.{Link}
use Rattle.links.specs.declared.Refusal.TheVariants as R
use Rattle.links.proofs.Lens.{sized-right, found_at}
use Rattle.link_steps.specs.Calls.{one_link, link_received}
use Rattle.link_steps.proofs.Laws.{received-at, received-nowhere}
use Rattle.station.specs.Calls.{station_of, receiving, step_at, place_of}

-- ---- the part that is lent

-- a part that was lent and is back
pub back : (a : List ℕ) (at n : ℕ) (ys : List ℕ) → length ys ≡ n → take at a ++ (ys ++ drop n (drop at a)) ≡ write a at ys
unfolding write
back a at n ys e = rw (← e, drop-drop, ← (append_assoc (take at a) ys (drop (at + length ys) a)))

-- a frame at a place, when the part is said by its length
pub part-as : (link : Link) (area f : List ℕ) (s n : ℕ) → n ≡ 1469 → link_received Provisioner (one_link link (take n (drop (1469 * s) area))) f ≡ step_at link area f s
part-as link area f s n e = rw e

-- ---- 11, 14, and the record that is found

pub area-right : (links : List Link) (area : List ℕ) → length links ≡ 8 → length area ≡ 11752 → is_right provisioner (station_of links area) ≡ true
area-right links area n m = sized-right (station_of links area) (m ∙ ap (λ (k : ℕ). 1469 * k) (sym n))

-- the place of a record that was found, or of the first
pub place-below : (links : List Link) → length links ≡ 8 → (id : ℕ) (found : Option ℕ) → found ≡ find links id → (place : ℕ) → place ≡ place_of found → place < 8
place-below links n id (Some s) e place p = omega (arith, n, p, (found_at links id s (sym e)).0)
place-below links n id None e place p = omega (arith, p)

module _ (links : List Link) (area f : List ℕ) (n : length links ≡ 8) where
  pub received-small : (length area ≡ 11752 → ⊥) → receiving links area f ≡ (Err R.WrongArgument, station_of links area)
  unfolding received
  received-small h = rw (n, ne_eqb (length area) 11752 h)

  pub received-bad : length area ≡ 11752 → good Provisioner links ≡ false → receiving links area f ≡ (Err R.BadState, station_of links area)
  unfolding received
  received-bad h g = rw (n, eq-eqb (length area) 11752 h, g)

  -- the record at the place that was found takes the step
  pub received-found : length area ≡ 11752 → good Provisioner links ≡ true → (found : Option ℕ) → find links (link_id f) ≡ found
      → let s = place_of found in
      let r = step_at (get_or links s no_link) area f s in
      receiving links area f ≡ (r.0, station_of (set links s r.1.link) (write area (1469 * s) r.1.part))
  unfolding get_link put_link
  received-found h g (Some s) e = received-at provisioner (station_of links area) f (area-right links area n h) g (λ _. refl) s (found_at links (link_id f) s e).0 e
  received-found h g None e = received-nowhere provisioner (station_of links area) f (area-right links area n h) g (λ _. refl) 0 (omega (arith, n)) e
