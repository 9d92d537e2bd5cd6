-- Laws of a frame of the import step: where a record is found.
use Prim.Native.Nat.{ℕ}
use Rattle.std.specs.Prelude.{Option, Some, None, Ok}
use native.Mathlib.Omega.{arith}
use mathlib.Core.List.{List}
use mathlib.Core.Path.{◌≡◌, refl}
use lib.ListN.{length}
use Rattle.pb_adv.specs.Frame.{id_of}
use Rattle.pb_adv.specs.declared.Frame.{Frame}
use Rattle.pb_adv.specs.declared.Frame.TheVariants as P
use Rattle.links.specs.Links.{provisioner, find}
use Rattle.links.specs.Promises.{addressed}
use Rattle.links.specs.declared.Link.{Link}
use Rattle.links.proofs.Lens.{found_at}
use Rattle.import_frames.specs.Origins.{FoundWithin}

pub found_within : (ls : List Link) (id : ℕ) → length ls ≡ 8 → (found : Option ℕ) → find ls id ≡ found → FoundWithin found
found_within ls id n (Some s) e = omega (arith, found_at ls id s e)
found_within ls id n None e = tt

-- a frame is for the record that has its Link ID
pub by-id : (ls : List Link) (p : Frame) → addressed provisioner ls (Ok p) ≡ find ls (id_of p)
by-id ls (P.Segment s) = refl
by-id ls (P.Acknowledgement id t) = refl
by-id ls (P.Open id uuid) = refl
by-id ls (P.Ack id) = refl
by-id ls (P.Close id reason) = refl
