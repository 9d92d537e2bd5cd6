-- Laws of the copy into the buffer.
use Prim.Native.Nat.{ℕ, ◌-◌}
use native.Mathlib.Omega.{arith}
use mathlib.Core.Bool.{false}
use mathlib.Core.List.{List}
use mathlib.Core.Path.{◌≡◌, ap, ◌∙◌}
use lib.ListN.{length, drop, length-drop}
use lib.Seq.{take_all}
use Rattle.octets.specs.Parts.{write, copied}
use Rattle.octets.proofs.Parts.{copied-part}
use Rattle.proxy.specs.Transfers.{held_length, piece_read, is_refused, buffer_after}
use Rattle.proxy.specs.declared.Transfer.{Transfer}
use Rattle.proxy.specs.declared.PieceRead.{PieceRead}
use Rattle.proxy.proofs.Reading.{Fits, Outcome, refuses, drops, adds, outcome}

fits-of : (s : Transfer) (room : ℕ) (p : List ℕ) (r : PieceRead) → Outcome s room p r → is_refused r.answer ≡ false → Fits s room p
fits-of s room p r (refuses q h) e = let z : ◌≡◌ {A = ℕ} 0 1 = cc in absurd (omega arith)
fits-of s room p r (drops q h) e = let z : ◌≡◌ {A = ℕ} 0 1 = cc in absurd (omega arith)
fits-of s room p r (adds f) e = f

-- a piece that is not refused
module _ (s : Transfer) (b p : List ℕ) (good : is_refused (piece_read s (length b) p).answer ≡ false) where
  pub good-fits : Fits s (length b) p
  good-fits = fits-of s (length b) p (piece_read s (length b) p) (outcome s (length b) p) good

  -- its copy is the buffer after it
  pub buffer-added : copied b (held_length s.half) p 1 (length p - 1) ≡ buffer_after s b p
  unfolding buffer_after
  buffer-added =
      let f = good-fits in
      rw good
      (copied-part b (held_length s.half) p 1 (length p - 1) (omega (arith, f.few-octets, f.whole-buffer)) (omega (arith, f.some-data))
      ∙ ap (write b (held_length s.half)) (take_all (length p - 1) (drop 1 p) (omega (arith, length-drop 1 p))))
