-- Laws of writers to a lent output, and the promises of `specs/Promises.antt`.
use Prim.Native.Nat.{ℕ, ◌≤◌, ◌<◌}
use native.Mathlib.Nat.{zero-add, sub-zero}
use native.Mathlib.Omega.{arith}
use mathlib.Core.Bool.{Bool, true, false}
use mathlib.Core.List.{List, [], ◌∷◌}
use mathlib.Core.Path.{◌≡◌, refl}
use lib.Dec.{leb, ltb}
use lib.ListN.{length, take}
use lib.Seq.{take-length}
use borrow.Author.Tests.{leb-true, le-leb, lt-leb, ltb-true, ltb-false}
use Rattle.octets.specs.Parts.{write, copy_fits, copied}
use Rattle.octets.specs.Told.{answered}
use Rattle.octets.specs.Writing.{told, is_written, written, output_after}
use Rattle.octets.specs.Promises.{RefusalKeeps, WritesFront, writer_rows, WriterTable}
use Rattle.octets.proofs.Parts.{write-front, write-start}
use Rattle.octets.proofs.Tables.{by-table}
use Rattle.octets.proofs.Tests.{cases, both_hold}
use Rattle.std.specs.Prelude.{Ok, Err}
use Rattle.octets.specs.Writing.{wrong_argument}

-- a writer whose octets fit
module _ (d output : List ℕ) (fits : length d ≤ length output) where
  pub written-fits : written true d output ≡ Ok (length d)
  unfolding written
  written-fits = rw (le-leb (length d) (length output) fits)

  pub output-fits : output_after true d output ≡ write output 0 d
  unfolding output_after
  output-fits = rw (le-leb (length d) (length output) fits)

-- a writer with more octets than the output
pub output-short : (d output : List ℕ) → length output < length d → (Err wrong_argument ≡ written true d output) × (output ≡ output_after true d output)
unfolding written output_after
output-short d output h = rw (lt-leb (length d) (length output) h) (refl, refl)

-- a copy of a whole list to the start of an output is a writer of it
module _ (d output : List ℕ) where
  pub copy-fits : copy_fits output 0 d 0 (length d) ≡ is_written true d output
  copy-fits =
      rw (sub-zero (length output), sub-zero (length d), le-leb 0 (length output) (omega arith), le-leb 0 (length d) (omega arith), le-leb (length d) (length d) (omega arith))
      (cases (leb (length d) (length output)) (λ e. rw e) (λ e. rw e))

  pub copy_writes : copied output 0 d 0 (length d) ≡ output_after true d output
  unfolding copied output_after
  copy_writes = rw (copy-fits, take-length d)

pub refusal-keeps : RefusalKeeps
unfolding written output_after
refusal-keeps right d output n =
    cases (is_written right d output) (λ e. rw e (λ q. let z : ◌≡◌ {A = ℕ} 0 1 = cc in absurd (omega arith))) (λ e. rw e (λ q. refl))

pub writes-front : WritesFront
unfolding written output_after
writes-front right d output values =
    cases (is_written right d output) (λ e. rw e (λ q. write-start output d)) (λ e. rw e (λ q. let z : ◌≡◌ {A = ℕ} 0 1 = cc in absurd (omega arith)))

-- octets that were written: the arguments were right, and they stand at the start of the output
pub wrote : (right : Bool) (d output : List ℕ) (n : ℕ) → told (written right d output) ≡ answered "written" (n ∷ []) → (right ≡ true) × (take n (output_after right d output) ≡ d)
unfolding written output_after
wrote right d output n =
    cases (is_written right d output)
    (λ e. rw e
    (λ q. let b = both_hold {a = right} {b = leb (length d) (length output)} e in
    let k : length d ≡ n = cc in
    (b.0, rw (← k) (rw zero-add at (write-front output 0 d (rw zero-add (leb-true (length d) (length output) b.1)))))))
    (λ e. rw e (λ q. let z : ◌≡◌ {A = ℕ} 0 1 = cc in absurd (omega arith)))

-- a writer with a wrong argument
pub output-wrong : (right : Bool) (d output : List ℕ) → right ≡ false → (Err wrong_argument ≡ written right d output) × (output ≡ output_after right d output)
unfolding written output_after
output-wrong right d output h = rw h (refl, refl)

pub writer-table : WriterTable
unfolding written
writer-table right d output =
    by-table (told (written right d output)) (writer_rows right d output) refl
    (cases right
    (λ r. rw r (cases (ltb (length output) (length d))
    (λ e. rw (e, lt-leb (length d) (length output) (ltb-true (length output) (length d) e)))
    (λ e. rw (e, le-leb (length d) (length output) (ltb-false (length output) (length d) e)))))
    (λ r. rw r))
