-- The four idle programs (`specs/Idle.antt`), at a station of one open link.
use Prim.Native.Nat.{ℕ, zero, suc, ◌≤◌}
use Rattle.std.specs.Prelude.{None}
use native.Mathlib.Omega.{arith}
use mathlib.Core.Bool.{Bool, true, false, ◌&&◌}
use mathlib.Core.List.Memᴰ
use mathlib.Core.List.{List, [], ◌∷◌, Memᴰ}
use mathlib.Core.Logic.{◌≢◌, ◌⊎◌, inl, inr}
use mathlib.Core.Option.{some}
use mathlib.Core.Path.{◌≡◌, refl, sym, ap, ◌∙◌}
use lib.Dec.{ltb}
use lib.ListN.{length, get_or, replicate}
use borrow.Author.Tests.{ltb-true}
use Rattle.octets.specs.Numbers.{Octets}
use Rattle.octets.specs.Parts.{write}
use Rattle.octets.specs.Cut.{piece, up_to}
use Rattle.octets.specs.Told.{Told, answered}
use Rattle.octets.specs.Tables.{first_of}
use Rattle.octets.proofs.Tests.{both_hold}
use Rattle.octets.proofs.Tables.{other-told}
use Rattle.fcs.specs.Fcs.{check_octet, octet_step, bit_step}
use Rattle.transactions.specs.Numbers.{is_socket, socket_place}
use Rattle.transactions.specs.declared.Socket.{Socket}
use Rattle.pb_adv.specs.Frame.{segment_octets}
use Rattle.pb_adv_writing.specs.Writing.{header_of, segment_frame}
use Rattle.links.specs.Marks.{is_marked, with_mark}
use Rattle.links.specs.Links.{provisioner, find_from, told}
use Rattle.links.specs.Good.{good}
use Rattle.links.specs.Station.{Station, get_link, link_at}
use Rattle.links.specs.Operations.{receiving, Receiver}
use Rattle.links.specs.Demand3.{Message, Call, Ready, cut_at, Premises, Right, First, Demand3}
use Rattle.links.specs.Demand2.{its_link, Prepared, CutComes, GivenBack, Back}
use Rattle.links.specs.Tables.{receiving_rows, ReceivingTable}
use Rattle.links.specs.Idle.{RefusesAll, AlwaysRepeats, StoresNothing, ServesFirst, IdlePrograms}
use Rattle.links.specs.declared.Side.TheVariants.{Provisioner}
use Rattle.links.specs.declared.LinkState.TheVariants as S
use Rattle.links.specs.declared.Link.{Link}
use Rattle.links.proofs.Sockets.{place-below}

-- ---- one open link, and an area of zeros

abbrev link : Link
link = record { state = S.Open; id = 0; next = record { 0 = 0 }; outstanding = false; last = None; half = None }

abbrev station : Station
station = record { links = link ∷ []; area = replicate 1469 0 }

abbrev first : Socket
first = record { 0 = 1 }

-- ---- a message of one octet, given back

abbrev short : Message
short = record { number = record { 0 = 0x80 }; octets = 1 ∷ [] }

abbrev whole : List ℕ
whole = segment_frame 0 short.number short.octets 0

-- the link is ready for it, as for every message under this number
module _ (octets : List ℕ) (one : 1 ≤ length octets) (few : length octets ≤ 1469) where
  abbrev numbered : Message
  numbered = record { number = record { 0 = 0x80 }; octets = octets }

  ready : Ready Provisioner link numbered
  ready = record { is_open = refl; nothing = refl; awaited = record { not_last = refl }; number = refl; some-octets = one; few-octets = few }

  prepared : Prepared provisioner station first numbered
  unfolding good get_link
  prepared = record { right = refl; not_bad = refl; socket = refl; ready = ready }

-- whose only segment is this frame
is-whole : Memᴰ whole (cut_at (its_link provisioner station first short) short)
unfolding get_link up_to
is-whole = Memᴰ.head refl

comes : CutComes provisioner station first short (receiving whole ∷ [])
unfolding get_link up_to
comes = record { before = []; since = []; split = refl; cut = λ f h. of f (Memᴰ.cases_cons h) }
  where
    of : (f : List ℕ) → (f ≡ whole) ⊎ Memᴰ f [] → Memᴰ (receiving f) (receiving whole ∷ [])
    of f (inl e) = Memᴰ.head (ap receiving e)
    of f (inr h) = absurd (Memᴰ.not-nil h)

given_back : (receive : Receiver) → Back receive → GivenBack provisioner station first short (receive provisioner) (receiving whole ∷ [])
unfolding get_link up_to
given_back receive b = b provisioner station first short (prepared (1 ∷ []) (omega arith) (omega arith)) (receiving whole ∷ []) (inl is-whole, tt) comes

refuses-all : (receive : Receiver) → RefusesAll (receive provisioner) → Back receive → ⊥
refuses-all receive h b =
    let g = given_back receive b in
    other-told _ _ refl (sym (h _ g.frame).1 ∙ g.delivered)

stores-nothing : (receive : Receiver) → StoresNothing (receive provisioner) → Back receive → ⊥
unfolding get_link
stores-nothing receive h b =
    let g = given_back receive b in
    let e : ◌≡◌ {A = List ℕ} (0 ∷ []) (1 ∷ []) = rw (h station whole) at g.stands in
    let z : ◌≡◌ {A = ℕ} 0 1 = cc in omega arith

abbrev all-octets : List ℕ → Bool
all-octets [] = true
all-octets (x ∷ l) = ltb x 256 && all-octets l

octets-all : (l : List ℕ) → all-octets l ≡ true → Octets l
octets-all [] e i = omega arith
octets-all (x ∷ l) e zero = ltb-true x 256 (both_hold {a = ltb x 256} {b = all-octets l} e).0
octets-all (x ∷ l) e (suc i) = octets-all l (both_hold {a = ltb x 256} {b = all-octets l} e).1 i

-- the row of a frame's answer, worked out
by_row : (receive : Receiver) → ReceivingTable receive → (f : List ℕ) → all-octets f ≡ true → (a : Told) → first_of (receiving_rows provisioner station f) ≡ some a
    → told (receive provisioner station f).0 ≡ a
by_row receive t f o a e =
    let q : some a ≡ some (told (receive provisioner station f).0) = sym e ∙ (t provisioner station f (octets-all f o)).first in
    cc

is-delivered : (receive : Receiver) → ReceivingTable receive → told (receive provisioner station whole).0 ≡ answered "delivered" (1 ∷ 0x80 ∷ [])
unfolding good find_from get_link segment_frame segment_octets header_of piece check_octet octet_step bit_step is_marked with_mark write
is-delivered receive t = by_row receive t whole refl _ refl

always-repeats : (receive : Receiver) → AlwaysRepeats (receive provisioner) → ReceivingTable receive → ⊥
always-repeats receive h t =
    other-told _ _ refl (sym (is-delivered receive t) ∙ h station first short (prepared (1 ∷ []) (omega arith) (omega arith)) whole is-whole)

-- ---- a message of three segments

abbrev long : Message
long = record { number = record { 0 = 0x80 }; octets = replicate 44 0 }

abbrev segment : ℕ → List ℕ
segment k = segment_frame 0 long.number long.octets k

abbrev brings : ℕ → Call
brings k = record { socket = first; frame = segment k }

premises : Premises station (λ _. long) provisioner
unfolding good
premises = record { right = refl; not_bad = refl; ready = at }
  where
    at : (s : Socket) → is_socket s 1 ≡ true → Ready Provisioner (link_at (link ∷ []) s) long
    at s e =
        let p : socket_place s ≡ 0 = omega (arith, place-below s 1 e) in
        rw p (ready (replicate 44 0) (omega arith) (omega arith))

-- the cut, by its three frames
right-0 : Right station (λ _. long) (brings 0)
unfolding up_to
right-0 = record { socket = refl; segment = Memᴰ.head refl }

right-1 : Right station (λ _. long) (brings 1)
unfolding up_to
right-1 = record { socket = refl; segment = Memᴰ.tail (Memᴰ.head refl) }

right-2 : Right station (λ _. long) (brings 2)
unfolding up_to
right-2 = record { socket = refl; segment = Memᴰ.tail (Memᴰ.tail (Memᴰ.head refl)) }

-- the sixth octet tells the frames apart
not-among : (k a b : ℕ) → get_or (segment k) 5 0 ≢ get_or (segment a) 5 0 → get_or (segment k) 5 0 ≢ get_or (segment b) 5 0 → Memᴰ (segment k) (segment a ∷ segment b ∷ []) → ⊥
not-among k a b p q h = of (Memᴰ.cases_cons h)
  where
    of : (segment k ≡ segment a) ⊎ Memᴰ (segment k) (segment b ∷ []) → ⊥
    of (inl e) = p (ap (λ (l : List ℕ). get_or l 5 0) e)
    of (inr m) = q (ap (λ (l : List ℕ). get_or l 5 0) (Memᴰ.eq_of_singleton m))

-- the third segment completes it behind the other two, and not behind the first alone
third-due : First station (λ _. long) (brings 0 ∷ brings 1 ∷ []) (brings 2)
unfolding segment_frame segment_octets header_of up_to
third-due = (λ f h. h, λ h. not-among 2 0 1 (omega arith) (omega arith) (h (segment 2) right-2.segment))

third-early : First station (λ _. long) (brings 0 ∷ []) (brings 2) → ⊥
unfolding segment_frame segment_octets header_of
third-early h = not-among 1 0 2 (omega arith) (omega arith) (h.0 (segment 1) right-1.segment)

is-kept : (receive : Receiver) → ReceivingTable receive → told (receive provisioner station (segment 0)).0 ≡ answered "kept" []
unfolding good find_from get_link segment_frame segment_octets header_of piece check_octet octet_step bit_step is_marked with_mark
is-kept receive t = by_row receive t (segment 0) refl _ refl

first-stays : (receive : Receiver) → ServesFirst (receive provisioner) → told (receive provisioner station (segment 0)).0 ≡ answered "kept" []
    → (receive provisioner (receive provisioner station (segment 0)).1 (segment 1)).1 ≡ (receive provisioner station (segment 0)).1
unfolding get_link up_to segment_frame segment_octets header_of
first-stays receive h =
    h station first long (prepared (replicate 44 0) (omega arith) (omega arith)) (segment 0) (segment 1) (Memᴰ.head refl) (Memᴰ.tail (Memᴰ.head refl))
    (λ e. let z : ◌≡◌ {A = ℕ} 8 6 = ap (λ (l : List ℕ). get_or l 5 0) e in omega arith)

serves-first : (receive : Receiver) → ServesFirst (receive provisioner) → ReceivingTable receive → Demand3 receive → ⊥
serves-first receive h t d =
    let stays = first-stays receive h (is-kept receive t) in
    let all = d provisioner station (λ _. long) premises (brings 0 ∷ brings 1 ∷ brings 2 ∷ []) (right-0, (right-1, (right-2, tt))) in
    let two = d provisioner station (λ _. long) premises (brings 0 ∷ brings 2 ∷ []) (right-0, (right-2, tt)) in
    third-early (two.only_then (brings 0 ∷ []) (brings 2) [] refl _ (rw stays at (all.due (brings 0 ∷ brings 1 ∷ []) (brings 2) [] refl third-due)))

pub idle-programs : IdlePrograms
idle-programs = record { refuses-all = refuses-all; always-repeats = always-repeats; stores-nothing = stores-nothing; serves-first = serves-first }
