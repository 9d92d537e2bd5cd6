-- Laws of the cut, shown once over the sizes of its pieces, and most of them over any places that go up from 0.
use Prim.Native.Nat.{ℕ, zero, suc, ◌+◌, ◌*◌, ◌-◌, ◌/◌, ◌≤◌, ◌<◌}
use native.Mathlib.Nat.{div-add-mod', mod-lt, mul-div-le, div-lt_iff_lt-mul}
use native.Mathlib.Omega.{arith}
use mathlib.Core.List.{List, [], ◌∷◌, ◌++◌, map, append-nil, append_assoc}
use mathlib.Core.Logic.{◌≢◌}
use mathlib.Core.Path.{◌≡◌, refl, sym, ap, ap₂, ◌∙◌}
use lib.Dec.{leb}
use lib.ListN.{length, take, drop, get_or, length-append, length-map, get_or-append}
use lib.Seq.{take_all, length-take-le, get_or_at}
use borrow.Author.Tests.{leb-true, leb-false}
use Rattle.octets.specs.Parts.{write}
use Rattle.octets.specs.Cut.{place_of, last_of, size_of, piece, up_to, cut, joined, placed}
use Rattle.octets.specs.Promises.{AllCuts}
use Rattle.octets.proofs.Parts.{part_length, part-take, take_part, part_same, part-before, part-after, write-next, write-start, write-nothing}
use Rattle.octets.proofs.Tests.{cases}

-- ---- the numbers from 0 up to n

pub length-up-to : (n : ℕ) → length (up_to n) ≡ n
unfolding up_to
length-up-to zero = refl
length-up-to (suc n) = length-append (up_to n) (n ∷ []) ∙ omega (arith, length-up-to n)

module _ {A : Type 0} (f : ℕ → A) where
  map-append : (k l : List ℕ) → map f (k ++ l) ≡ map f k ++ map f l
  map-append [] l = refl
  map-append (x ∷ k) l = ap (λ (r : List A). f x ∷ r) (map-append k l)

  pub map-up-to : (n : ℕ) → map f (up_to (suc n)) ≡ map f (up_to n) ++ (f n ∷ [])
  unfolding up_to
  map-up-to n = map-append (up_to n) (n ∷ [])

  pub length-map-up-to : (n : ℕ) → length (map f (up_to n)) ≡ n
  length-map-up-to n = length-map (up_to n) f ∙ length-up-to n

  pub get_or-map-up-to : (n k : ℕ) (d : A) → k < n → get_or (map f (up_to n)) k d ≡ f k
  get_or-map-up-to zero k d h = absurd (omega arith)
  get_or-map-up-to (suc n) k d h =
      rw (map-up-to n)
      (cases (leb n k)
      (λ e. let q : n ≡ k = omega (arith, leb-true n k e) in get_or_at (map f (up_to n)) (f n) [] d k (length-map-up-to n ∙ q) ∙ ap f q)
      (λ e. get_or-append (map f (up_to n)) _ d k (omega (arith, leb-false n k e, length-map-up-to n)) ∙ get_or-map-up-to n k d (leb-false n k e)))

pub equal-maps : {A : Type 0} (f g : ℕ → A) (n : ℕ) → ((k : ℕ) → k < n → f k ≡ g k) → map f (up_to n) ≡ map g (up_to n)
unfolding up_to
equal-maps f g zero e = refl
equal-maps {A} f g (suc n) e =
    map-up-to f n
    ∙ ap₂ (λ (x : List A) (y : A). x ++ (y ∷ [])) (equal-maps f g n (λ k b. e k (omega arith))) (e n (omega arith))
    ∙ sym (map-up-to g n)

pub joined-append : (k l : List (List ℕ)) → joined (k ++ l) ≡ joined k ++ joined l
joined-append [] l = refl
joined-append (x ∷ k) l = rw (joined-append k l) (sym (append_assoc x (joined k) (joined l)))

-- one more list, joined after the others
pub joined-up-to : (f : ℕ → List ℕ) (n : ℕ) → joined (map f (up_to (suc n))) ≡ joined (map f (up_to n)) ++ f n
joined-up-to f n = rw (map-up-to f n) (joined-append (map f (up_to n)) (f n ∷ []) ∙ rw (append-nil (f n)))

-- ---- the last piece

pub place_up : (a b k : ℕ) → place_of a b k ≤ place_of a b (suc k)
place_up a b zero = omega arith
place_up a b (suc k) = omega arith

-- a further piece stands b (k - 1) after the first
pub place-further : (a b k : ℕ) → 0 < k → place_of a b k ≡ a + b * (k - 1)
place-further a b zero h = absurd (omega arith)
place-further a b (suc k) h = let e : suc k - 1 ≡ k = omega arith in rw e

-- the pieces up to the last one hold all octets
pub last-enough : (a b n : ℕ) → 0 < b → n ≤ a + b * last_of a b n
last-enough a b n pos =
    let x = n - a + (b - 1) in
    omega (arith, div-add-mod' x b, mod-lt x pos)

-- the last piece begins within the list
pub last_begins : (a b n : ℕ) → 0 < b → place_of a b (last_of a b n) ≤ n
last_begins a b n pos = go (last_of a b n) refl
  where
    go : (q : ℕ) → last_of a b n ≡ q → place_of a b q ≤ n
    go zero e = omega arith
    go (suc j) e = omega (arith, rw e at (mul-div-le (n - a + (b - 1)) b))

-- no smaller number of pieces does
pub last-least : (a b n N : ℕ) → 0 < b → n ≤ a + b * N → last_of a b n ≤ N
last-least a b n N pos h =
    let q : (n - a + (b - 1)) / b < suc N = (div-lt_iff_lt-mul pos).1 (omega arith) in
    omega arith

-- ---- pieces by their places
module _ (place : ℕ → ℕ) (zero-at : place 0 ≡ 0) (up : (k : ℕ) → place k ≤ place (suc k)) where
  pub places-up : (j k : ℕ) → j ≤ k → place j ≤ place k
  places-up j zero h = let e : j ≡ 0 = omega arith in rw e (omega arith)
  places-up j (suc k) h =
      cases (leb j k) (λ e. let i = places-up j k (leb-true j k e) in omega (arith, up k))
      (λ e. let q : j ≡ suc k = omega (arith, leb-false j k e) in rw q (omega arith))

  pub piece-length : (n : ℕ) (l : List ℕ) (k : ℕ) → n ≤ length l → length (piece place n l k) ≡ size_of place n k
  unfolding piece
  piece-length n l k h =
      cases (leb (place k) n)
      (λ e. part_length l (place k) (size_of place n k) (omega (arith, leb-true (place k) n e)))
      (λ e. let z : size_of place n k ≡ 0 = omega (arith, leb-false (place k) n e) in rw z)

  -- the pieces of a front are those of the list
  pub piece-take : (n : ℕ) (l : List ℕ) (k : ℕ) → piece place n (take n l) k ≡ piece place n l k
  unfolding piece
  piece-take n l k =
      cases (leb (place k) n)
      (λ e. part-take n l (place k) (size_of place n k) (omega (arith, leb-true (place k) n e)))
      (λ e. let z : size_of place n k ≡ 0 = omega (arith, leb-false (place k) n e) in rw z)

  -- a write of piece k: it is there, and the others are as they were
  module _ (n : ℕ) (p : List ℕ) (k : ℕ) (d : List ℕ) (room : n ≤ length p) (begins : place k ≤ n) (right : length d ≡ size_of place n k) where
    pub piece-fits : place k + length d ≤ length p
    piece-fits = omega (arith, up k)

    pub piece-same : piece place n (write p (place k) d) k ≡ d
    unfolding piece
    piece-same = rw (← right) (part_same p (place k) d piece-fits)

    pub piece-other : (j : ℕ) → k ≢ j → piece place n (write p (place k) d) j ≡ piece place n p j
    unfolding piece
    piece-other j h =
        cases (leb j k)
        (λ e. let b : j ≤ k = leb-true j k e in
        part-before p (place k) d piece-fits (place j) (size_of place n j) (omega (arith, up j, places-up (suc j) k (omega arith))))
        (λ e. part-after p (place k) d piece-fits (place j) (size_of place n j) (omega (arith, up k, places-up (suc k) j (leb-false j k e))))

  module _ (n N : ℕ) (begins : place N ≤ n) (enough : n ≤ place (suc N)) where
    ends : (k : ℕ) → k < N → place k + size_of place n k ≡ place (suc k)
    ends k h = omega (arith, up k, places-up (suc k) N h)

    -- the first pieces joined are a front of the list
    joined-front : (l : List ℕ) (k : ℕ) → k ≤ N → joined (map (piece place n l) (up_to k)) ≡ take (place k) l
    unfolding piece up_to
    joined-front l zero b = rw zero-at
    joined-front l (suc k) b =
        joined-up-to (piece place n l) k ∙ rw (joined-front l k (omega arith)) (sym (take_part l (place k) (size_of place n k)) ∙ rw (ends k b))

    -- all pieces joined are the list
    pub joined-pieces : (l : List ℕ) → joined (map (piece place n l) (up_to (suc N))) ≡ take n l
    unfolding piece
    joined-pieces l =
        let e : place N + size_of place n N ≡ n = omega (arith, up N) in
        joined-up-to (piece place n l) N ∙ rw (joined-front l N (omega arith)) (sym (take_part l (place N) (size_of place n N)) ∙ rw e)

    -- lists whose pieces are equal
    pub equal-pieces : (p m : List ℕ) → ((j : ℕ) → j ≤ N → piece place n p j ≡ piece place n m j) → take n p ≡ take n m
    equal-pieces p m h =
        sym (joined-pieces p) ∙ ap joined (equal-maps (piece place n p) (piece place n m) (suc N) (λ j b. h j (omega arith))) ∙ joined-pieces m

    -- pieces written one after the other, each at its place, are one write of what they join to
    placed-front : (l p : List ℕ) → n ≤ length l → n ≤ length p → (k : ℕ) → k ≤ suc N
        → placed place n l p k ≡ write p 0 (joined (map (piece place n l) (up_to k)))
    unfolding up_to
    placed-front l p h room zero b = sym (write-nothing p 0)
    placed-front l p h room (suc k) b =
        let front = joined (map (piece place n l) (up_to k)) in
        let within : place k ≤ n = omega (arith, places-up k N (omega arith)) in
        let long : length front ≡ place k = ap length (joined-front l k (omega arith)) ∙ length-take-le (place k) l (omega arith) in
        let here : place k ≡ 0 + length front = omega arith in
        ap (λ (x : List ℕ). write x (place k) (piece place n l k)) (placed-front l p h room k (omega arith))
        ∙ ap (λ (x : ℕ). write (write p 0 front) x (piece place n l k)) here
        ∙ write-next p 0 front (piece place n l k) (omega arith) ∙ ap (write p 0) (sym (joined-up-to (piece place n l) k))

    pub placed-pieces : (l p : List ℕ) → n ≤ length l → n ≤ length p → placed place n l p (suc N) ≡ take n l ++ drop n p
    placed-pieces l p h room =
        placed-front l p h room (suc N) (omega arith) ∙ rw (joined-pieces l) (write-start p (take n l) ∙ rw (length-take-le n l h))

-- ---- the cut

module _ (a b : ℕ) (pos : 0 < b) (l : List ℕ) where
  -- what is cut and joined is the list
  pub joined-cut : joined (cut a b l) ≡ l
  joined-cut =
      joined-pieces (place_of a b) refl (place_up a b) (length l) (last_of a b (length l)) (last_begins a b (length l) pos) (last-enough a b (length l) pos) l
      ∙ take_all (length l) l (omega arith)

  -- written piece by piece, each at its place, it stands at the start, and nothing after it has changed
  pub placed-cut : (p : List ℕ) → length l ≤ length p
      → placed (place_of a b) (length l) l p (suc (last_of a b (length l))) ≡ l ++ drop (length l) p
  placed-cut p room =
      placed-pieces (place_of a b) refl (place_up a b) (length l) (last_of a b (length l)) (last_begins a b (length l) pos) (last-enough a b (length l) pos) l p (omega arith) room
      ∙ rw (take_all (length l) l (omega arith))

  -- the number of pieces
  pub cut-count : length (cut a b l) ≡ suc (last_of a b (length l))
  cut-count = length-map-up-to (piece (place_of a b) (length l) l) (suc (last_of a b (length l)))

  -- piece k, by its place
  pub cut-piece : (k : ℕ) → k ≤ last_of a b (length l) → get_or (cut a b l) k [] ≡ piece (place_of a b) (length l) l k
  cut-piece k h = get_or-map-up-to (piece (place_of a b) (length l) l) (suc (last_of a b (length l))) k [] (omega arith)

  -- every piece but the last is full
  pub cut-first : 0 < last_of a b (length l) → length (piece (place_of a b) (length l) l 0) ≡ a
  cut-first h =
      piece-length (place_of a b) refl (place_up a b) (length l) l 0 (omega arith) ∙ omega (arith, places-up (place_of a b) refl (place_up a b) 1 (last_of a b (length l)) h, last_begins a b (length l) pos)

  pub cut-further : (k : ℕ) → suc k < last_of a b (length l) → length (piece (place_of a b) (length l) l (suc k)) ≡ b
  cut-further k h =
      piece-length (place_of a b) refl (place_up a b) (length l) l (suc k) (omega arith)
      ∙ omega (arith, places-up (place_of a b) refl (place_up a b) (suc (suc k)) (last_of a b (length l)) h, last_begins a b (length l) pos)

-- each piece of a list that isn't empty begins before its end
pub piece-begins : (a b n k : ℕ) → 0 < b → 0 < n → k ≤ last_of a b n → place_of a b k < n
piece-begins a b n zero pos some h = some
piece-begins a b n (suc k) pos some h =
    cases (leb n (a + b * k)) (λ e. absurd (omega (arith, last-least a b n k pos (leb-true n (a + b * k) e)))) (λ e. leb-false n (a + b * k) e)

pub all-cuts : AllCuts
all-cuts a b l pos = record {
  enough = last-enough a b (length l) pos;
  least = λ N. last-least a b (length l) N pos;
  count = cut-count a b pos l;
  pieces = cut-piece a b pos l;
  first-most = omega (arith, piece-length (place_of a b) refl (place_up a b) (length l) l 0 (omega arith));
  further-most = λ k. omega (arith, piece-length (place_of a b) refl (place_up a b) (length l) l (suc k) (omega arith));
  first = cut-first a b pos l;
  further = cut-further a b pos l;
  begins = λ k. piece-begins a b (length l) k pos;
  together = joined-cut a b pos l;
  back = placed-cut a b pos l;
}
