-- DOCUMENT 01'S FOUR IDLE PROGRAMS, each as any receiver that is idle in its way at the provisioner's end: none meets the promise that document 01 names
-- for it. The proof is `proofs/Idle.antt`.
use Rattle.std.specs.Prelude.{ℕ, ◌≢◌, ◌≡◌}
use mathlib.Core.List.{List, [], Memᴰ}
use Rattle.octets.specs.Told.{refused, answered}
use Rattle.transactions.specs.declared.Socket.{Socket}
use Rattle.links.specs.Links.{provisioner, told}
use Rattle.links.specs.Station.{Station}
use Rattle.links.specs.Operations.{ReceivingStep, Receiver}
use Rattle.links.specs.Demand3.{Message, cut_at, Demand3}
use Rattle.links.specs.Demand2.{its_link, Prepared, Back}
use Rattle.links.specs.Tables.{ReceivingTable}

module _ (receive : ReceivingStep) where
  -- "one that refuses all"
  abbrev pub RefusesAll : Type 0
  RefusesAll = (σ : Station) (f : List ℕ) → (n : ℕ) × (told (receive σ f).0 ≡ refused n)

  -- "one that always answers 'repeat'": to every segment of a message that a link is ready for, whatever it answers else
  abbrev pub AlwaysRepeats : Type 0
  AlwaysRepeats =
      (σ : Station) (s : Socket) (m : Message) → Prepared provisioner σ s m
      → (f : List ℕ) → Memᴰ f (cut_at (its_link provisioner σ s m) m) → told (receive σ f).0 ≡ answered "repeat" []

  -- "one that stores nothing"
  abbrev pub StoresNothing : Type 0
  StoresNothing = (σ : Station) (f : List ℕ) → (receive σ f).1.area ≡ σ.area

  -- "one that serves the first frame and then only says so": once a segment of a message was kept, no other segment of it changes anything, whatever
  -- is answered
  abbrev pub ServesFirst : Type 0
  ServesFirst =
      (σ : Station) (s : Socket) (m : Message) → Prepared provisioner σ s m
      → (f g : List ℕ) → Memᴰ f (cut_at (its_link provisioner σ s m) m) → Memᴰ g (cut_at (its_link provisioner σ s m) m) → f ≢ g → told (receive σ f).0 ≡ answered "kept" []
      → (receive (receive σ f).1 g).1 ≡ (receive σ f).1

pub record IdlePrograms : Type 0 where
  -- "demand 2's round trip stops it"
  pub refuses-all : (receive : Receiver) → RefusesAll (receive provisioner) → Back receive → ⊥
  -- "the receiving table"
  pub always-repeats : (receive : Receiver) → AlwaysRepeats (receive provisioner) → ReceivingTable receive → ⊥
  -- "delivered octets"
  pub stores-nothing : (receive : Receiver) → StoresNothing (receive provisioner) → Back receive → ⊥
  -- "demand 3, read over the table above"
  pub serves-first : (receive : Receiver) → ServesFirst (receive provisioner) → ReceivingTable receive → Demand3 receive → ⊥
