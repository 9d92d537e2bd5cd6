-- Octets by what document 01 says of them: the kinds of `parsed`, and from them the table of `specs/Tables.antt`.
use Prim.Native.Nat.{ℕ, ◌≤◌}
use Rattle.pb_adv.specs.declared.Frame.{Frame}
use Rattle.pb_adv.specs.declared.FrameRefusal.{FrameRefusal}
use Rattle.std.specs.Prelude.{Result, Ok, Err}
use native.Mathlib.Omega.{arith}
use mathlib.Core.Bool.{Bool, true, false, ◌&&◌}
use mathlib.Core.List.{List}
use mathlib.Core.Option.{some}
use mathlib.Core.Path.{◌≡◌, refl}
use lib.Dec.{leb, eqb}
use lib.ListN.{length, get_or}
use borrow.Author.Tests.{eqb-true, eqb-false, leb-true, le-leb}
use Rattle.octets.specs.Numbers.{big16}
use Rattle.octets.specs.Tables.{first_of}
use Rattle.octets.proofs.Tests.{cases, both_hold}
use Rattle.octets.proofs.Tables.{by-table}
use Rattle.pb_adv.specs.Frame.{link_id, number_of, kind_of, high_bits, segment_from, is_start, control_of, parsed, told}
use Rattle.pb_adv.specs.Tables.{malformed, unknown_opcode, frame_rows, FrameTable}
use Rattle.pb_adv.specs.declared.SegmentHeader.TheVariants.{Start, Continuation}
use Rattle.pb_adv.specs.declared.FrameRefusal.TheVariants.{Malformed, UnknownOpcode}
use Rattle.pb_adv.specs.declared.Frame.TheVariants as P

module _ (f : List ℕ) where
  -- a frame, by its kind and high bits
  pub data IsFrame : Result Frame FrameRefusal → Type 0 where
    start : kind_of f ≡ 0 → is_start f ≡ true → IsFrame (segment_from f (Start (big16 f 6) (get_or f 8 0)) 9)
    acknowledgement : kind_of f ≡ 1 → IsFrame (Ok (P.Acknowledgement (link_id f) (number_of f)))
    continuation : kind_of f ≡ 2 → 1 ≤ high_bits f → IsFrame (segment_from f (Continuation (high_bits f)) 6)
    opens : kind_of f ≡ 3 → high_bits f ≡ 0 → IsFrame (Ok (P.Open (link_id f) 6))
    acks : kind_of f ≡ 3 → high_bits f ≡ 1 → IsFrame (Ok (P.Ack (link_id f)))
    closes : kind_of f ≡ 3 → high_bits f ≡ 2 → IsFrame (Ok (P.Close (link_id f) (get_or f 6 0)))

  -- what octets say: 1, 2, or a frame
  pub data Reads : Result Frame FrameRefusal → Type 0 where
    no-frame : malformed f ≡ true → Reads (Err Malformed)
    unknown : malformed f ≡ false → unknown_opcode f ≡ true → Reads (Err UnknownOpcode)
    frame : {p : Result Frame FrameRefusal} → malformed f ≡ false → unknown_opcode f ≡ false → IsFrame p → Reads p

  abbrev sized : Bool
  sized = leb 6 (length f) && leb (length f) 29

  reads-control : sized ≡ true → kind_of f ≡ 3 → Reads (control_of f)
  unfolding control_of
  reads-control e k =
      cases (eqb (high_bits f) 0)
      (λ h. let z : high_bits f ≡ 0 = eqb-true _ _ h in
      rw h (cases (eqb (length f) 22) (λ g. rw g (frame (rw (e, k, z, g)) (rw (k, z)) (opens k z))) (λ g. rw g (no-frame (rw (e, k, z, g))))))
      (λ h0. rw h0 (cases (eqb (high_bits f) 1)
      (λ h. let z : high_bits f ≡ 1 = eqb-true _ _ h in
      rw h (cases (eqb (length f) 6) (λ g. rw g (frame (rw (e, k, z, g)) (rw (k, z)) (acks k z))) (λ g. rw g (no-frame (rw (e, k, z, g))))))
      (λ h1. rw h1 (cases (eqb (high_bits f) 2)
      (λ h. let z : high_bits f ≡ 2 = eqb-true _ _ h in
      rw h (cases (eqb (length f) 7) (λ g. rw g (frame (rw (e, k, z, g)) (rw (k, z)) (closes k z))) (λ g. rw g (no-frame (rw (e, k, z, g))))))
      (λ h2. rw h2 (unknown (rw (e, k, h0, h1, h2))
      (rw (k, le-leb 3 (high_bits f) (omega (arith, eqb-false (high_bits f) 0 h0, eqb-false (high_bits f) 1 h1, eqb-false (high_bits f) 2 h2))))))))))

  pub reads : Reads (parsed f)
  unfolding parsed is_start
  reads =
      cases sized
      (λ e. rw e (cases (eqb (kind_of f) 0)
      (λ k. let z : kind_of f ≡ 0 = eqb-true _ _ k in
      rw k (cases (is_start f) (λ g. rw g (frame (rw (e, z, g)) (rw z) (start z g))) (λ g. rw g (no-frame (rw (e, z, g))))))
      (λ k0. rw k0 (cases (eqb (kind_of f) 1)
      (λ k. let z : kind_of f ≡ 1 = eqb-true _ _ k in
      rw k (cases (eqb (high_bits f) 0 && eqb (length f) 6) (λ g. rw g (frame (rw (e, z, g)) (rw z) (acknowledgement z))) (λ g. rw g (no-frame (rw (e, z, g))))))
      (λ k1. rw k1 (cases (eqb (kind_of f) 2)
      (λ k. let z : kind_of f ≡ 2 = eqb-true _ _ k in
      rw k (cases (leb 1 (high_bits f) && leb 7 (length f))
      (λ g. rw g (frame (rw (e, z, g)) (rw z) (continuation z (leb-true 1 (high_bits f) (both_hold {a = leb 1 (high_bits f)} {b = leb 7 (length f)} g).0))))
      (λ g. rw g (no-frame (rw (e, z, g))))))
      (λ k2. rw k2 (reads-control e (omega (arith, eqb-false (kind_of f) 0 k0, eqb-false (kind_of f) 1 k1, eqb-false (kind_of f) 2 k2))))))))))
      (λ e. rw e (no-frame (rw e)))

by-frame : (f : List ℕ) (p : Result Frame FrameRefusal) → IsFrame f p → malformed f ≡ false → unknown_opcode f ≡ false → first_of (frame_rows f) ≡ some (told p)
by-frame f p (start k e) m n = rw (m, k)
by-frame f p (acknowledgement k) m n = rw (m, k)
by-frame f p (continuation k h) m n = rw (m, k)
by-frame f p (opens k h) m n = rw (m, k, h)
by-frame f p (acks k h) m n = rw (m, k, h)
by-frame f p (closes k h) m n = rw (m, k, h)

by-reads : (f : List ℕ) (p : Result Frame FrameRefusal) → Reads f p → first_of (frame_rows f) ≡ some (told p)
by-reads f p (no-frame m) = rw m
by-reads f p (unknown m n) = rw (m, n)
by-reads f p (frame m n r) = by-frame f p r m n

pub frame-table : FrameTable
frame-table f = by-table (told (parsed f)) (frame_rows f) refl (by-reads f (parsed f) (reads f))
