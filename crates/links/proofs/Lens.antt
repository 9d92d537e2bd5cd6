-- The station as its sockets: what is put for one socket is there, leaves the others, and leaves a good state good.
use Prim.Native.Nat.{ℕ, zero, suc, ◌+◌, ◌*◌, ◌-◌, ◌≤◌, ◌<◌}
use Rattle.std.specs.Prelude.{Option, Some, None}
use native.Mathlib.Nat.{le_of_suc-le-suc, add-zero, sub-zero}
use native.Mathlib.Omega.{arith}
use mathlib.Core.Bool.{Bool, true, false, ◌&&◌, cond, not, false≢true}
use mathlib.Core.List.{List, [], ◌∷◌, ◌++◌}
use mathlib.Core.Logic.{◌≢◌}
use mathlib.Core.Path.{◌≡◌, refl, sym, ap, ap₂, ◌∙◌, subst}
use lib.Dec.{eqb, leb}
use lib.ListN.{length, get_or, set, take, length-set, take-append-drop}
use lib.Seq.{get_or-set_same, get_or-set_other, set-get_or, set_out, ext_get_or, take_all}
use borrow.Author.Tests.{eqb-true, eqb-false, eq-eqb, ne_eqb, leb-true, leb-false}
use Rattle.octets.specs.Parts.{part, write}
use Rattle.octets.proofs.Parts.{part_length, take_part, write-length, part_same, part-before, part-after}
use Rattle.octets.proofs.Tests.{cases, both, both_hold, holds-both}
use Rattle.pb_adv.specs.Frame.{is_uuid}
use Rattle.links.specs.Links.{End, provisioner, device, in_use, has_id, find_from, find}
use Rattle.links.specs.Good.{good_link, apart, all_apart, good}
use Rattle.std.specs.List.{list_all}
use Rattle.links.specs.Segments.{OneLink}
use Rattle.links.specs.Station.{Station, no_link, get_link, put_link, is_right}
use Rattle.links.specs.declared.Side.{Side}
use Rattle.links.specs.declared.Link.{Link}

-- ---- right arguments

-- a station whose area has 1,469 octets for each record
abbrev pub Sized : Station → Type 0
Sized σ = length σ.area ≡ 1469 * length σ.links

pub right-sized : (end : End) (σ : Station) → is_right end σ ≡ true → Sized σ
right-sized provisioner σ h = eqb-true (length σ.area) (1469 * length σ.links) h
right-sized (device own) σ h =
    eqb-true (length σ.area) (1469 * length σ.links)
    (both_hold {a = eqb (length σ.area) (1469 * length σ.links)} h).0

pub sized-right : (σ : Station) → Sized σ → is_right provisioner σ ≡ true
sized-right σ h = eq-eqb (length σ.area) (1469 * length σ.links) h

-- a device has one record, and its UUID 16 octets
module _ (own : List ℕ) (σ : Station) (right : is_right (device own) σ ≡ true) where
  one-and-uuid : (eqb (length σ.links) 1 && is_uuid own) ≡ true
  one-and-uuid = (both_hold {a = eqb (length σ.area) (1469 * length σ.links)} {b = eqb (length σ.links) 1 && is_uuid own} right).1

  pub right-one : length σ.links ≡ 1
  right-one = eqb-true (length σ.links) 1 (both_hold {a = eqb (length σ.links) 1} {b = is_uuid own} one-and-uuid).0

  pub right-uuid : length own ≡ 16
  right-uuid = eqb-true (length own) 16 (both_hold {a = eqb (length σ.links) 1} {b = is_uuid own} one-and-uuid).1

-- they are right for every station of that size
pub right-as : (end : End) (σ τ : Station) → length τ.links ≡ length σ.links → length τ.area ≡ length σ.area → is_right end σ ≡ true → is_right end τ ≡ true
right-as provisioner σ τ c a h = rw (c, a) h
right-as (device own) σ τ c a h = rw (c, a) h

-- ---- one socket's record and part

module _ (n : ℕ) (σ : Station) (count : length σ.links ≡ n) (room : length σ.area ≡ 1469 * n) where
  pub part-size : (s : ℕ) → s < n → length (get_link s σ).part ≡ 1469
  unfolding get_link
  part-size s h = part_length σ.area (1469 * s) 1469 (omega arith)

  module _ (s : ℕ) (below : s < n) (x : OneLink) (sized : length x.part ≡ 1469) where
    in_area : 1469 * s + length x.part ≤ length σ.area
    in_area = omega arith

    pub put_count : length (put_link s x σ).links ≡ n
    unfolding put_link
    put_count = length-set σ.links s x.link ∙ count

    pub put-room : length (put_link s x σ).area ≡ 1469 * n
    unfolding put_link
    put-room = write-length σ.area (1469 * s) x.part in_area ∙ room

    pub get-put : get_link s (put_link s x σ) ≡ x
    unfolding get_link put_link
    get-put =
        let w = write σ.area (1469 * s) x.part in
        let q : part w (1469 * s) 1469 ≡ x.part = ap (part w (1469 * s)) (sym sized) ∙ part_same σ.area (1469 * s) x.part in_area in
        λ i. record { link = get_or-set_same σ.links s x.link no_link (omega arith) i; part = q i }

    pub get-put-other : (j : ℕ) → s ≢ j → get_link j (put_link s x σ) ≡ get_link j σ
    unfolding get_link put_link
    get-put-other j h = λ i. record { link = get_or-set_other σ.links s j x.link no_link (λ e. h (sym e)) i; part = parts i }
      where
        parts : part (write σ.area (1469 * s) x.part) (1469 * j) 1469 ≡ part σ.area (1469 * j) 1469
        parts =
            cases (leb j s)
            (λ e. let b : j ≤ s = leb-true j s e in part-before σ.area (1469 * s) x.part in_area (1469 * j) 1469 (omega arith))
            (λ e. let b : s < j = leb-false j s e in part-after σ.area (1469 * s) x.part in_area (1469 * j) 1469 (omega arith))

area-fronts : (a b : List ℕ) (n : ℕ) → ((j : ℕ) → j < n → part a (1469 * j) 1469 ≡ part b (1469 * j) 1469) → take (1469 * n) a ≡ take (1469 * n) b
area-fronts a b zero h = refl
area-fronts a b (suc n) h =
    let e : 1469 * suc n ≡ 1469 * n + 1469 = omega arith in
    rw e (take_part a (1469 * n) 1469 ∙ ap₂ ◌++◌ (area-fronts a b n (λ j u. h j (omega arith))) (h n (omega arith)) ∙ sym (take_part b (1469 * n) 1469))

-- two stations whose sockets are equal
pub station-ext : (n : ℕ) (σ τ : Station) → length σ.links ≡ n → length σ.area ≡ 1469 * n → length τ.links ≡ n → length τ.area ≡ 1469 * n
    → ((j : ℕ) → j < n → get_link j σ ≡ get_link j τ) → σ ≡ τ
unfolding get_link
station-ext n σ τ c r c' r' h = λ i. record { links = links i; area = area i }
  where
    links : σ.links ≡ τ.links
    links = ext_get_or no_link σ.links τ.links (c ∙ sym c') (λ j b. ap (λ (x : OneLink). x.link) (h j (omega arith)))

    area : σ.area ≡ τ.area
    area =
        sym (take_all (1469 * n) σ.area (omega arith)) ∙ area-fronts σ.area τ.area n (λ j b. ap (λ (x : OneLink). x.part) (h j b))
        ∙ take_all (1469 * n) τ.area (omega arith)

-- what is there, written again
write-back : (l : List ℕ) (from count : ℕ) → from + count ≤ length l → write l from (part l from count) ≡ l
unfolding write
write-back l from count h = rw (part_length l from count h, ← (take_part l from count)) (take-append-drop (from + count) l)

-- what was got, put back
pub put-get : (s : ℕ) (σ : Station) → 1469 * suc s ≤ length σ.area → put_link s (get_link s σ) σ ≡ σ
unfolding put_link get_link
put-get s σ h = λ i. record { links = set-get_or σ.links s no_link i; area = write-back σ.area (1469 * s) 1469 (omega arith) i }

-- ---- tests over all records

pub all-at : {B : Type 0} (p : B → Bool) (l : List B) (s : ℕ) (z : B) → list_all p l ≡ true → s < length l → p (get_or l s z) ≡ true
all-at p [] s z h b = absurd (omega arith)
all-at p (x ∷ l) zero z h b = (both_hold {a = p x} {b = list_all p l} h).0
all-at p (x ∷ l) (suc s) z h b = all-at p l s z (both_hold {a = p x} {b = list_all p l} h).1 (le_of_suc-le-suc b)

pub all-each : {B : Type 0} (p : B → Bool) (l : List B) (z : B) → ((s : ℕ) → s < length l → p (get_or l s z) ≡ true) → list_all p l ≡ true
all-each p [] z h = refl
all-each p (x ∷ l) z h = holds-both (h 0 (omega arith)) (all-each p l z (λ s b. h (suc s) (omega arith)))

pub all_set : {B : Type 0} (p : B → Bool) (l : List B) (s : ℕ) (b : B) → list_all p l ≡ true → p b ≡ true → list_all p (set l s b) ≡ true
all_set p [] s b h k = refl
all_set p (x ∷ l) zero b h k = holds-both k (both_hold {a = p x} {b = list_all p l} h).1
all_set p (x ∷ l) (suc s) b h k = let q = both_hold {a = p x} {b = list_all p l} h in holds-both q.0 (all_set p l s b q.1 k)

-- ---- records apart

pub apart-sym : (a b : Link) → apart a b ≡ apart b a
apart-sym a b = go (in_use a.state) (in_use b.state) (same_test a.id b.id)
  where
    same_test : (i j : ℕ) → eqb i j ≡ eqb j i
    same_test i j =
        cases (eqb i j) (λ e. e ∙ sym (eq-eqb j i (sym (eqb-true i j e)))) (λ e. e ∙ sym (ne_eqb j i (λ u. eqb-false i j e (sym u))))

    go : (u v : Bool) {t w : Bool} → t ≡ w → not (u && (v && t)) ≡ not (v && (u && w))
    go true v e = rw e
    go false true e = refl
    go false false e = refl

pub apart-at : (ls : List Link) (i j : ℕ) → all_apart ls ≡ true → i < length ls → j < length ls → i ≢ j → apart (get_or ls i no_link) (get_or ls j no_link) ≡ true
apart-at [] i j h b c d = absurd (omega arith)
apart-at (l ∷ ls) zero zero h b c d = absurd (d refl)
apart-at (l ∷ ls) zero (suc j) h b c d = all-at (apart l) ls j no_link (both_hold {a = list_all (apart l) ls} {b = all_apart ls} h).0 (le_of_suc-le-suc c)
apart-at (l ∷ ls) (suc i) zero h b c d =
    apart-sym (get_or ls i no_link) l ∙ all-at (apart l) ls i no_link (both_hold {a = list_all (apart l) ls} {b = all_apart ls} h).0 (le_of_suc-le-suc b)
apart-at (l ∷ ls) (suc i) (suc j) h b c d =
    apart-at ls i j (both_hold {a = list_all (apart l) ls} {b = all_apart ls} h).1 (le_of_suc-le-suc b) (le_of_suc-le-suc c) (λ e. d (ap suc e))

apart-set : (ls : List Link) (s : ℕ) (l : Link) → all_apart ls ≡ true → ((j : ℕ) → j < length ls → s ≢ j → apart l (get_or ls j no_link) ≡ true)
    → all_apart (set ls s l) ≡ true
apart-set [] s l h k = refl
apart-set (m ∷ ls) zero l h k =
    holds-both (all-each (apart l) ls no_link (λ j b. k (suc j) (omega arith) (λ e. absurd (omega arith)))) (both_hold {a = list_all (apart m) ls} {b = all_apart ls} h).1
apart-set (m ∷ ls) (suc s) l h k =
    let p = both_hold {a = list_all (apart m) ls} {b = all_apart ls} h in
    holds-both
    (all_set (apart m) ls s l p.0 (apart-sym m l ∙ k 0 (omega arith) (λ e. absurd (omega arith))))
    (apart-set ls s l p.1 (λ j b d. k (suc j) (omega arith) (λ e. d (omega arith))))

-- ---- the record of a Link ID

-- a record in use of a Link ID is not apart from another of it
not-apart : (l m : Link) (id : ℕ) → has_id l id ≡ true → has_id m id ≡ true → apart l m ≡ false
not-apart l m id p q =
    let u = both_hold {a = in_use l.state} {b = eqb l.id id} p in
    let v = both_hold {a = in_use m.state} {b = eqb m.id id} q in
    rw (u.0, v.0, eq-eqb l.id m.id (eqb-true l.id id u.1 ∙ sym (eqb-true m.id id v.1)))

find-from : (k : ℕ) (ls : List Link) (id s : ℕ) → all_apart ls ≡ true → s < length ls → has_id (get_or ls s no_link) id ≡ true → find_from k ls id ≡ Some (k + s)
unfolding find_from
find-from k [] id s d h e = absurd (omega arith)
find-from k (l ∷ ls) id zero d h e = rw (e, add-zero k)
find-from k (l ∷ ls) id (suc s) d h e =
    let p = both_hold {a = list_all (apart l) ls} {b = all_apart ls} d in
    let b : s < length ls = le_of_suc-le-suc h in
    let q : suc k + s ≡ k + suc s = omega arith in
    both (λ t. cond t (Some k) (find_from (suc k) ls id) ≡ Some (k + suc s)) (has_id l id)
    (λ u. absurd (false≢true (sym (not-apart l (get_or ls s no_link) id u e) ∙ all-at (apart l) ls s no_link p.0 b)))
    (λ u. find-from (suc k) ls id s p.1 b e ∙ ap Some q)

pub find_at : (ls : List Link) (id s : ℕ) → all_apart ls ≡ true → s < length ls → has_id (get_or ls s no_link) id ≡ true → find ls id ≡ Some s
find_at ls id s d h e = let q : 0 + s ≡ s = omega arith in find-from 0 ls id s d h e ∙ ap Some q

-- what a search says whose places are counted from k on
abbrev FindSays : ℕ → List Link → ℕ → Option ℕ → Type 0
FindSays k ls id (Some s) = (k ≤ s) × (s - k < length ls) × (has_id (get_or ls (s - k) no_link) id ≡ true)
FindSays k ls id None = (j : ℕ) → has_id (get_or ls j no_link) id ≡ false

says-further : (k : ℕ) (l : Link) (ls : List Link) (id : ℕ) → has_id l id ≡ false → (r : Option ℕ) → FindSays (suc k) ls id r → FindSays k (l ∷ ls) id r
says-further k l ls id e (Some s) h =
    let b : suc k ≤ s = h.0 in
    let q : s - k ≡ suc (s - suc k) = omega arith in
    (omega arith, omega (arith, h.1), rw q h.2)
says-further k l ls id e None h = by_place
  where
    by_place : (j : ℕ) → has_id (get_or (l ∷ ls) j no_link) id ≡ false
    by_place zero = e
    by_place (suc j) = h j

find-says : (k : ℕ) (ls : List Link) (id : ℕ) → FindSays k ls id (find_from k ls id)
unfolding find_from
find-says k [] id = λ j. refl
find-says k (l ∷ ls) id =
    let q : k - k ≡ 0 = omega arith in
    both (λ t. FindSays k (l ∷ ls) id (cond t (Some k) (find_from (suc k) ls id))) (has_id l id)
    (λ e. (omega arith, omega arith, rw q e))
    (λ e. says-further k l ls id e (find_from (suc k) ls id) (find-says (suc k) ls id))

pub found_at : (ls : List Link) (id s : ℕ) → find ls id ≡ Some s → (s < length ls) × (has_id (get_or ls s no_link) id ≡ true)
found_at ls id s e = let h = subst (FindSays 0 ls id) e (find-says 0 ls id) in (omega (arith, h.1), rw (sub-zero s) at h.2)

pub found_nowhere : (ls : List Link) (id : ℕ) → find ls id ≡ None → (j : ℕ) → has_id (get_or ls j no_link) id ≡ false
found_nowhere ls id e = subst (FindSays 0 ls id) e (find-says 0 ls id)

-- ---- a good state stays good

pub good-out : (side : Side) (ls : List Link) → good side ls ≡ true → (list_all (good_link side) ls ≡ true) × (all_apart ls ≡ true)
unfolding good
good-out side ls h = both_hold h

pub good-get : (side : Side) (σ : Station) (s : ℕ) → good side σ.links ≡ true → s < length σ.links → good_link side (get_link s σ).link ≡ true
unfolding get_link
good-get side σ s h b = all-at (good_link side) σ.links s no_link (good-out side σ.links h).0 b

-- a record put among records that are apart from it
pub good-apart : (side : Side) (ls : List Link) (s : ℕ) (l : Link) → good side ls ≡ true → good_link side l ≡ true
    → ((j : ℕ) → j < length ls → s ≢ j → apart l (get_or ls j no_link) ≡ true) → good side (set ls s l) ≡ true
unfolding good
good-apart side ls s l h k d =
    let p = good-out side ls h in
    holds-both (all_set (good_link side) ls s l p.0 k) (apart-set ls s l p.1 d)

-- a record in place of another: in use if that is and with its Link ID, or not in use
pub data InPlace (l m : Link) : Type 0 where
  same_use : in_use l.state ≡ in_use m.state → l.id ≡ m.id → InPlace l m
  unused : in_use l.state ≡ false → InPlace l m

in-place-apart : (l m b : Link) → InPlace l m → apart m b ≡ true → apart l b ≡ true
in-place-apart l m b (same_use u i) h = rw (u, i) h
in-place-apart l m b (unused u) h = rw u

pub good-set : (side : Side) (ls : List Link) (s : ℕ) (l : Link) → good side ls ≡ true → good_link side l ≡ true → InPlace l (get_or ls s no_link)
    → good side (set ls s l) ≡ true
good-set side ls s l h k q =
    cases (leb (length ls) s)
    (λ e. rw (set_out ls s l (leb-true (length ls) s e)) h)
    (λ e. let below = leb-false (length ls) s e in
    good-apart side ls s l h k (λ j b d. in-place-apart l (get_or ls s no_link) (get_or ls j no_link) q (apart-at ls s j (good-out side ls h).1 below b d)))

pub good-put : (side : Side) (σ : Station) (s : ℕ) (x : OneLink) → good side σ.links ≡ true → good_link side x.link ≡ true
    → InPlace x.link (get_link s σ).link → good side (put_link s x σ).links ≡ true
unfolding put_link get_link
good-put side σ s x h k q = good-set side σ.links s x.link h k q
