-- The promise of `specs/Promises.antt`.
use Prim.Native.Nat.{ℕ, zero, suc, ◌+◌, ◌-◌, ◌≤◌, ◌<◌, min}
use native.Mathlib.Omega.{arith}
use mathlib.Core.List.{List, [], ◌∷◌, ◌++◌, append_assoc, append-nil}
use mathlib.Core.Path.{◌≡◌, refl, sym, ap, ◌∙◌}
use lib.Dec.{leb}
use lib.ListN.{length, take}
use lib.Seq.{length-take-le, take_all, take-append-add, take-append_seam}
use borrow.Author.Tests.{leb-true, leb-false}
use Rattle.octets.specs.Cut.{joined}
use Rattle.octets.proofs.Tests.{cases}
use Rattle.octets.proofs.Parts.{write-length, write-front, copied-part}
use Rattle.line_buffer.specs.Buffer.{fits, held_after, held_line}
use Rattle.line_buffer.specs.Promises.{HoldsFront}
use Rattle.line_buffer.proofs.Laws.{hold-full, hold-some}

-- ---- fronts

-- the front of a piece, by a number of octets that it has or has not
front-min : (n : ℕ) (piece : List ℕ) → take (min (length piece) n) piece ≡ take n piece
front-min n piece =
    cases (leb n (length piece))
    (λ e. let k : min (length piece) n ≡ n = omega (arith, leb-true n (length piece) e) in rw k)
    (λ e. let b = leb-false n (length piece) e in
    let k : min (length piece) n ≡ length piece = omega arith in
    rw (k, take_all (length piece) piece (omega arith), take_all n piece (omega arith)))

-- more behind a front
pub front-more : (n : ℕ) (x y : List ℕ) → take n (take n x ++ y) ≡ take n (x ++ y)
front-more zero x y = refl
front-more (suc n) [] y = refl
front-more (suc n) (c ∷ x) y = ap (λ (r : List ℕ). c ∷ r) (front-more n x y)

-- ---- one piece more

module _ (line : List ℕ) (held : ℕ) (piece : List ℕ) (few : held ≤ length line) where
  pub record Held : Type 0 where
    pub front : take (held_after line held piece) (held_line line held piece) ≡ take (length line) (take held line ++ piece)
    pub same_length : length (held_line line held piece) ≡ length line
    pub few-held : held_after line held piece ≤ length line

  full : length line ≤ held → Held
  full h =
      let p = hold-full line held piece h in
      let all : take held line ≡ line = take_all held line h in
      record {
        front = rw (← p.0, ← p.1, all) (take_all (length line) line (omega arith) ∙ sym (take-append_seam line piece));
        same_length = rw (← p.1);
        few-held = rw (← p.0) (omega arith);
      }

  some : held < length line → Held
  some h =
      let n = fits line held piece in
      let p = hold-some line held piece n h refl in
      let long : length (take n piece) ≡ n = length-take-le n piece (omega arith) in
      let put = copied-part line held piece 0 n (omega arith) (omega arith) in
      let front = write-front line held (take n piece) (omega arith) in
      let held_long = length-take-le held line few in
      let seam : length (take held line) + (length line - held) ≡ length line = omega arith in
      record {
        front = rw (← p.0, ← p.1, put)
            ((rw long at front) ∙ ap (λ (r : List ℕ). take held line ++ r) (front-min (length line - held) piece)
            ∙ sym (take-append-add (take held line) piece (length line - held)) ∙ ap (λ (k : ℕ). take k (take held line ++ piece)) seam);
        same_length = rw (← p.1, put) (write-length line held (take n piece) (omega arith));
        few-held = rw (← p.0) (omega arith);
      }

  pub holds-piece : Held
  holds-piece = cases (leb (length line) held) (λ e. full (leb-true (length line) held e)) (λ e. some (leb-false (length line) held e))

-- ---- all pieces

pub holds-front : HoldsFront
holds-front line held [] few =
    rw (append-nil (take held line)) (sym (take_all (length line) (take held line) (omega (arith, length-take-le held line few))))
holds-front line held (piece ∷ pieces) few =
    let p = holds-piece line held piece few in
    let more = holds-front (held_line line held piece) (held_after line held piece) pieces (omega (arith, p.same_length, p.few-held)) in
    (rw (p.same_length, p.front) at more)
    ∙ (rw (append_assoc (take held line) piece (joined pieces)) at (front-more (length line) (take held line ++ piece) (joined pieces)))
