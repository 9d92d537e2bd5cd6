-- The promises of `specs/Promises.antt`.
use Prim.Native.Nat.{ℕ, suc, ◌+◌, ◌-◌, ◌≤◌}
use Prim.Native.String.{String}
use native.Mathlib.Nat.{zero-add}
use native.Mathlib.Omega.{arith}
use mathlib.Core.Bool.{Bool, true, false, ◌||◌}
use mathlib.Core.List.{List, [], ◌∷◌, map, map-map}
use mathlib.Core.Path.{◌≡◌, refl, sym, ap, ◌∙◌}
use lib.Dec.{eqb}
use Rattle.std.specs.Prelude.{Some}
use lib.ListN.{length, length-drop}
use lib.Seq.{take_all}
use borrow.Author.Tests.{leb-true, le-leb, lt-ltb}
use Rattle.octets.specs.Cut.{size_of, piece, up_to, joined}
use Rattle.octets.specs.Told.{refused, answered}
use Rattle.octets.proofs.Cut.{get_or-map-up-to, joined-cut}
use Rattle.octets.proofs.Tables.{other-told}
use Rattle.octets.proofs.Tests.{cases}
use Rattle.octets.proofs.Writing.{wrote}
use Rattle.proxy.specs.Pieces.{is_piece, piece_place, last_piece, top_bits, piece_octets, message_pieces}
use Rattle.proxy.specs.Transfers.{is_good, set_connected, type_of, data_of, top_of, held_length, added, piece_read, is_refused, buffer_after, refusal_number, told}
use Rattle.proxy.specs.Promises.{emptied, disconnects, RefusalKeeps, ConnectionRefusalKeeps, PiecesAdded, ConnectionStartsEmpty, KeepsGood, Back, WritesPieces, CutsAsSaid}
use Rattle.proxy.specs.declared.Transfer.{Transfer}
use Rattle.proxy.specs.declared.PieceRead.{PieceRead}
use Rattle.proxy.proofs.Reading.{Outcome, refuses, drops, adds, outcome, total}
use Rattle.proxy.proofs.Laws.{cut-asked, piece-asked, begins, last-ends, one_piece, place-times, place-next, data-long}
use Rattle.proxy.proofs.Back.{all-pieces}

pub back : Back
back z t m b c h room = all-pieces z t m (cut-asked z (length m) c) (leb-true t 3 h) b room

-- ---- refusals

-- what a result keeps, if it is the refusal of a number
record Kept (s : Transfer) (r : PieceRead) (n : ℕ) : Type 0 where
  refusal : is_refused r.answer ≡ true
  keeps : disconnects n ≡ false → r.transfer ≡ s
  drops : disconnects n ≡ true → r.transfer ≡ emptied false

-- a test cannot give both
never : {A : Type 0} {t : Bool} → t ≡ true → t ≡ false → A
never e f = let z : ◌≡◌ {A = ℕ} 0 1 = cc in absurd (omega arith)

kept : (s : Transfer) (room : ℕ) (p : List ℕ) (r : PieceRead) → Outcome s room p r → (n : ℕ) → told r.answer ≡ refused n → Kept s r n
unfolding added
kept s room p r (refuses q h) n e =
    let k : refusal_number q ≡ n = cc in
    record { refusal = refl; keeps = λ d. refl; drops = λ d. never d (ap disconnects (sym k) ∙ h) }
kept s room p r (drops q h) n e =
    let k : refusal_number q ≡ n = cc in
    record { refusal = refl; keeps = λ d. never (ap disconnects (sym k) ∙ h) d; drops = λ d. refl }
kept s room p r (adds f) n e =
    let z : ◌≡◌ {A = ℕ} 0 1 =
    cases (eqb (top_of p) 0 || eqb (top_of p) 3) (λ g. let h = rw g at e in cc) (λ g. let h = rw g at e in cc) in
    absurd (omega arith)

pub refusal-keeps : RefusalKeeps
unfolding buffer_after
refusal-keeps s b p n e =
    let k = kept s (length b) p (piece_read s (length b) p) (outcome s (length b) p) n e in
    record { buffer = rw k.refusal; keeps = k.keeps; drops = k.drops }

pub connection-refusal-keeps : ConnectionRefusalKeeps
unfolding set_connected
connection-refusal-keeps c s n =
    cases (is_good s) (λ g. rw g (λ e. let z : ◌≡◌ {A = ℕ} 0 1 = cc in absurd (omega arith))) (λ g. rw g (λ e. refl))

-- ---- good pieces

module _ (s : Transfer) (room : ℕ) (p : List ℕ) where
  -- the transfer with the piece added
  abbrev going : Transfer
  going = record { connected = true; half = Some (record { kind = type_of p; length = held_length s.half + length (data_of p) }) }

  data-count : length (data_of p) ≡ length p - 1
  data-count = length-drop 1 p

  after_more : (r : PieceRead) → Outcome s room p r → told r.answer ≡ answered "more" [] → r.transfer ≡ going
  unfolding added
  after_more r (refuses q h) = other-told _ _ refl
  after_more r (drops q h) = other-told _ _ refl
  after_more r (adds f) = cases (eqb (top_of p) 0 || eqb (top_of p) 3) (λ g. rw g (other-told _ _ refl)) (λ g. rw (g, data-count) (λ _. refl))

  after-whole : (r : PieceRead) → Outcome s room p r → (values : List ℕ) → told r.answer ≡ answered "whole" values → r.transfer ≡ emptied true
  unfolding added
  after-whole r (refuses q h) values = other-told _ _ refl
  after-whole r (drops q h) values = other-told _ _ refl
  after-whole r (adds f) values = cases (eqb (top_of p) 0 || eqb (top_of p) 3) (λ g. rw g (λ _. refl)) (λ g. rw g (other-told _ _ refl))

  not-refused : (r : PieceRead) → Outcome s room p r → (word : String) (values : List ℕ) → told r.answer ≡ answered word values → is_refused r.answer ≡ false
  unfolding added
  not-refused r (refuses q h) word values = other-told _ _ refl
  not-refused r (drops q h) word values = other-told _ _ refl
  not-refused r (adds f) word values = cases (eqb (top_of p) 0 || eqb (top_of p) 3) (λ g. rw g (λ _. refl)) (λ g. rw g (λ _. refl))

pub pieces-added : PiecesAdded
unfolding buffer_after
pieces-added s b p = record {
  more = after_more s (length b) p _ (outcome s (length b) p);
  whole = after-whole s (length b) p _ (outcome s (length b) p);
  buffer = λ word values e. rw (not-refused s (length b) p _ (outcome s (length b) p) word values e);
}

pub connection-starts-empty : ConnectionStartsEmpty
unfolding set_connected
connection-starts-empty c s = cases (is_good s) (λ g. rw g (λ _. refl)) (λ g. rw g (other-told _ _ refl))

-- ---- good states

good-after : (s : Transfer) (room : ℕ) (p : List ℕ) (r : PieceRead) → Outcome s room p r → is_good s ≡ true → is_good r.transfer ≡ true
unfolding added is_good
good-after s room p r (refuses q h) g = g
good-after s room p r (drops q h) g = refl
good-after s room p r (adds f) g =
    let b = f.some-data in
    cases (eqb (top_of p) 0 || eqb (top_of p) 3)
    (λ e. rw e)
    (λ e. rw (e, f.known-type, le-leb 1 (total s p) (omega arith), le-leb (total s p) 1469 f.few-octets))

pub keeps-good : KeepsGood
unfolding set_connected is_good
keeps-good = record {
  new = refl;
  connects = λ c s g. rw g;
  reads = λ s b p g. good-after s (length b) p (piece_read s (length b) p) (outcome s (length b) p) g;
}

-- ---- the list of pieces

pub writes-pieces : WritesPieces
writes-pieces z t m k output n e =
    let w = wrote (is_piece z t m k) (piece_octets z t m k) output n e in
    let a = piece-asked z t m k w.0 in
    w.1 ∙ sym (get_or-map-up-to (piece_octets z t m) (suc (last_piece z (length m))) k [] (omega (arith, a.index)))

joined-data : (z t : ℕ) (m : List ℕ) → 20 ≤ z → joined (map data_of (message_pieces z t m)) ≡ m
unfolding piece_octets last_piece
joined-data z t m h = ap joined (map-map data_of (piece_octets z t m) (up_to (suc (last_piece z (length m))))) ∙ joined-cut (z - 1) (z - 1) (omega arith) m

pub cuts-as-said : CutsAsSaid
unfolding piece_octets piece top_bits up_to
cuts-as-said z t m c =
    let asked = cut-asked z (length m) c in
    let N = last_piece z (length m) in
    let long = data-long z m N in
    let here = begins z (length m) asked N (omega arith) in
    let there = last-ends z (length m) asked in
    let least = asked.size-least in
    let next = place-next z N in
    record {
      whole = λ h. rw (one_piece z (length m) asked h, lt-ltb (length m) z h, zero-add) (ap (λ (l : List ℕ). (t ∷ l) ∷ []) (take_all (size_of (piece_place z) (length m) 0) m (omega arith)));
      full = λ k h.
          data-long z m k ∙ omega (arith, place-next z k, begins z (length m) asked (suc k) h);
      remains = omega (arith, place-times (z - 1) N);
      some-octet = omega arith;
      no_more = omega arith;
      in_order = joined-data z t m (omega arith);
    }
