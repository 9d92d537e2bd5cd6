-- The part that is copied to, put back, is the list pasted over.
use lib.Seq.{take-length}
use mathlib.Core.Path.{◌∙◌, refl}
use native.Mathlib.Omega.{arith}
use Rattle.std.proofs.lemmas.Slice.{put_mid-paste}
use Rattle.octets.specs.Parts.{write}
use Rattle.octet_parts.proofs.copy_all.Goals as goal

pub returns : goal.returns
unfolding write
returns c = put_mid-paste _ _ _ _ _ _ c.copy_from_slice.ensures.after (omega arith) refl ∙ simp take-length
