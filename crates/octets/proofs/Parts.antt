-- Laws of parts and writes: a write changes its place and nothing else, and writes that follow one another are one.
use Prim.Native.Nat.{ℕ, zero, suc, ◌+◌, ◌-◌, ◌<◌, ◌≤◌}
use native.Mathlib.Nat.{add-zero, zero-add, suc-sub-suc, zero-sub, sub-zero}
use native.Mathlib.Numerals.{add-one}
use native.Mathlib.Omega.{arith}
use mathlib.Core.Bool.{true, ◌&&◌, false≢true, and-eq-true_iff}
use mathlib.Core.List.{List, [], ◌∷◌, ◌++◌, append_assoc, append-nil}
use mathlib.Core.Path.{◌≡◌, refl, sym, ap, ap₂, ◌∙◌}
use lib.Dec.{eqb}
use lib.ListN.{length, take, drop, set, get_or, length-append, length-drop, take-append-drop, drop_of_length-le}
use lib.Seq.{take-append-le, take-take, take_at, drop_at, drop-drop, take-add, length-take-le, set_at, drop-cons, append_snoc, take-nil, take-length, take_all}
use borrow.Author.Tests.{le-leb, eq-eqb, eqb-true}
use Rattle.octets.specs.Parts.{part, write, copied, same, same_part}
use Rattle.octets.specs.Promises.{SameExactly}

pub part_length : (l : List ℕ) (from count : ℕ) → from + count ≤ length l → length (part l from count) ≡ count
part_length l from count h = length-take-le count (drop from l) (omega (arith, length-drop from l))

-- a front, with the part that follows it
pub take_part : (l : List ℕ) (from count : ℕ) → take (from + count) l ≡ take from l ++ part l from count
take_part l from count = take-add from count l

drop-take : (f t : ℕ) (l : List ℕ) → drop f (take t l) ≡ take (t - f) (drop f l)
drop-take zero t l = rw sub-zero
drop-take (suc f) zero l = rw zero-sub
drop-take (suc f) (suc t) [] = sym (take-nil (suc t - suc f))
drop-take (suc f) (suc t) (x ∷ l) = rw suc-sub-suc (drop-take f t l)

-- a part, as the end of a front
pub part-front : (l : List ℕ) (from count : ℕ) → part l from count ≡ drop from (take (from + count) l)
part-front l from count = let e : from + count - from ≡ count = omega arith in sym (drop-take from (from + count) l ∙ rw e)

-- a part of a front
pub part-take : (n : ℕ) (l : List ℕ) (from count : ℕ) → from + count ≤ n → part (take n l) from count ≡ part l from count
part-take n l from count h =
    part-front (take n l) from count ∙ ap (drop from) (take-take (from + count) n l h) ∙ sym (part-front l from count)

module _ (l : List ℕ) (at : ℕ) (d : List ℕ) (fits : at + length d ≤ length l) where
  head-length : length (take at l ++ d) ≡ at + length d
  head-length = length-append (take at l) d ∙ ap (λ (n : ℕ). n + length d) (length-take-le at l (omega arith))

  pub write-length : length (write l at d) ≡ length l
  unfolding write
  write-length = omega (arith, length-append (take at l ++ d) (drop (at + length d) l), head-length, length-drop (at + length d) l)

  pub write-take : (t : ℕ) → t ≤ at → take t (write l at d) ≡ take t l
  unfolding write
  write-take t h =
      take-append-le t (take at l ++ d) _ (omega (arith, head-length))
      ∙ take-append-le t (take at l) d (omega (arith, length-take-le at l (omega arith))) ∙ take-take t at l h

  pub write-drop : (f : ℕ) → at + length d ≤ f → drop f (write l at d) ≡ drop f l
  unfolding write
  write-drop f h =
      let e : (at + length d) + (f - (at + length d)) ≡ f = omega arith in
      ap (λ (n : ℕ). drop n (write l at d)) (sym e)
      ∙ sym (drop-drop (f - (at + length d)) (at + length d) (write l at d))
      ∙ ap (drop (f - (at + length d))) (drop_at (take at l ++ d) (drop (at + length d) l) (at + length d) head-length)
      ∙ drop-drop (f - (at + length d)) (at + length d) l ∙ ap (λ (n : ℕ). drop n l) e

  -- what stands up to the end of it
  pub write-front : take (at + length d) (write l at d) ≡ take at l ++ d
  unfolding write
  write-front = take_at (take at l ++ d) (drop (at + length d) l) (at + length d) head-length

  -- the part that was written
  pub part_same : part (write l at d) at (length d) ≡ d
  unfolding write
  part_same =
      ap (take (length d))
      (ap (drop at) (append_assoc (take at l) d _) ∙ drop_at (take at l) (d ++ drop (at + length d) l) at (length-take-le at l (omega arith)))
      ∙ take_at d _ (length d) refl

  -- a part before it
  pub part-before : (from count : ℕ) → from + count ≤ at → part (write l at d) from count ≡ part l from count
  part-before from count h =
      part-front (write l at d) from count ∙ ap (drop from) (write-take (from + count) h) ∙ sym (part-front l from count)

  -- a part after it
  pub part-after : (from count : ℕ) → at + length d ≤ from → part (write l at d) from count ≡ part l from count
  part-after from count h = ap (take count) (write-drop from h)

-- nothing written
pub write-nothing : (l : List ℕ) (at : ℕ) → write l at [] ≡ l
unfolding write
write-nothing l at = rw (append-nil (take at l), add-zero) (take-append-drop at l)

-- at the start
pub write-start : (l d : List ℕ) → write l 0 d ≡ d ++ drop (length d) l
unfolding write
write-start l d = rw zero-add

-- a write after a write is one write of both
pub write-next : (l : List ℕ) (at : ℕ) (d e : List ℕ) → at + length d ≤ length l → write (write l at d) (at + length d) e ≡ write l at (d ++ e)
unfolding write
write-next l at d e h =
    let n : at + length (d ++ e) ≡ at + length d + length e = omega (arith, length-append d e) in
    rw (write-front l at d h, write-drop l at d h (at + length d + length e) (omega arith), n) (rw (append_assoc (take at l) d e))

-- a write from a place within the list, however far
pub write-longer : (l : List ℕ) (at : ℕ) (d : List ℕ) → at ≤ length l → (at + length d ≤ length (write l at d)) × (length l ≤ length (write l at d))
unfolding write
write-longer l at d h =
    let front = length-append (take at l) d in
    let all = length-append (take at l ++ d) (drop (at + length d) l) in
    let behind = length-drop (at + length d) l in
    let head = length-take-le at l h in
    (omega arith, omega arith)

-- a write at the start of what lies behind a place, back in its place
pub write-behind : (l : List ℕ) (at : ℕ) (d : List ℕ) → at + length d ≤ length l
    → take at l ++ (write (part l at (length l - at)) 0 d ++ drop (length l - at) (drop at l)) ≡ write l at d
unfolding write
write-behind l at d h =
    let behind = length-drop at l in
    rw (take_all (length l - at) (drop at l) (omega arith), drop_of_length-le (drop at l) {i = length l - at} (omega arith), zero-add, append-nil (d ++ drop (length d) (drop at l)), drop-drop (length d) at l)
    (sym (append_assoc (take at l) d (drop (at + length d) l)))

-- one octet more, after a write
pub write-octet : (l : List ℕ) (at : ℕ) (d : List ℕ) (x : ℕ) → at + length d < length l → set (write l at d) (at + length d) x ≡ write l at (d ++ (x ∷ []))
unfolding write
write-octet l at d x h =
    let n : at + length (d ++ (x ∷ [])) ≡ suc (at + length d) = omega (arith, length-append d (x ∷ [])) in
    rw (drop-cons l (at + length d) 0 h, n)
    (set_at (take at l ++ d) _ _ x (at + length d) (head-length l at d (omega arith))
    ∙ sym (append_snoc (take at l ++ d) x (drop (suc (at + length d)) l)) ∙ rw (append_assoc (take at l) d (x ∷ [])))

-- a copy that fits
pub copied-part : (to : List ℕ) (at : ℕ) (source : List ℕ) (from count : ℕ) → at + count ≤ length to → from + count ≤ length source
    → copied to at source from count ≡ write to at (part source from count)
unfolding copied
copied-part to at source from count h k =
    rw (le-leb at (length to) (omega arith), le-leb count (length to - at) (omega arith), le-leb from (length source) (omega arith), le-leb count (length source - from) (omega arith))

-- a list copied whole behind a write
pub copied_next : (l : List ℕ) (at : ℕ) (d x : List ℕ) (next : ℕ) → next ≡ at + length d → next + length x ≤ length l
    → copied (write l at d) next x 0 (length x) ≡ write l at (d ++ x)
copied_next l at d x next e h =
    copied-part (write l at d) next x 0 (length x) (omega (arith, write-length l at d (omega arith))) (omega arith)
    ∙ rw (take-length x, e) (write-next l at d x (omega arith))

pub same_refl : (l : List ℕ) → same l l ≡ true
same_refl [] = refl
same_refl (x ∷ l) = rw (eq-eqb x x refl) (same_refl l)

same-equal : (l m : List ℕ) → same l m ≡ true → l ≡ m
same-equal [] [] e = refl
same-equal [] (y ∷ m) e = absurd (false≢true e)
same-equal (x ∷ l) [] e = absurd (false≢true e)
same-equal (x ∷ l) (y ∷ m) e =
    let b = (and-eq-true_iff (eqb x y) (same l m)).0 e in
    ap₂ ◌∷◌ (eqb-true x y b.0) (same-equal l m b.1)

pub same-exactly : SameExactly
same-exactly l m = (same-equal l m, λ e. rw e (same_refl m))

-- one octet taken off both
pub same_step : (a b : List ℕ) (j : ℕ) → j < length a → j < length b
    → same (drop j a) (drop j b) ≡ (eqb (get_or a j 0) (get_or b j 0) && same (drop (j + 1) a) (drop (j + 1) b))
same_step a b j ha hb = rw (add-one, drop-cons a j 0, drop-cons b j 0)

pub same_end : (a b : List ℕ) (j : ℕ) → length a ≤ j → length b ≤ j → same (drop j a) (drop j b) ≡ true
same_end a b j ha hb = rw (drop_of_length-le a, drop_of_length-le b)

-- parts that are within their lists are compared
pub same-part-fits : (l : List ℕ) (at : ℕ) (m : List ℕ) (from count : ℕ) → at + count ≤ length l → from + count ≤ length m
    → same_part l at m from count ≡ same (part l at count) (part m from count)
unfolding same_part
same-part-fits l at m from count h k =
    rw (le-leb at (length l) (omega arith), le-leb count (length l - at) (omega arith), le-leb from (length m) (omega arith), le-leb count (length m - from) (omega arith))
