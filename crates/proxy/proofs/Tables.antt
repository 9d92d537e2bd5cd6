-- The tables of `specs/Tables.antt`.
use Prim.Native.Nat.{ℕ, suc, ◌+◌, ◌-◌}
use native.Mathlib.Nat.{zero-add}
use native.Mathlib.Omega.{arith}
use mathlib.Core.Bool.{Bool, true, false, ◌&&◌, ◌||◌, not, or-true, or-false}
use mathlib.Core.List.{List}
use mathlib.Core.Option.{some}
use mathlib.Core.Path.{◌≡◌, refl, sym, ◌∙◌}
use lib.Dec.{leb, ltb, eqb}
use Rattle.std.specs.Prelude.{Option, Some, None}
use lib.ListN.{length}
use borrow.Author.Tests.{leb-true, leb-false, eq-eqb, ne_eqb}
use Rattle.octets.specs.Tables.{first_of}
use Rattle.octets.proofs.Cut.{length-map-up-to}
use Rattle.octets.proofs.Tables.{by-table}
use Rattle.octets.proofs.Tests.{cases, lt_not_le, not-both}
use Rattle.octets.proofs.Writing.{writer-table}
use Rattle.octets.specs.Lengths.{is_length}
use Rattle.proxy.specs.Pieces.{is_size, is_type, is_cut, is_piece, last_piece, piece_octets, message_pieces, pieces_counted, count_told}
use Rattle.proxy.specs.Transfers.{is_good, is_good_half, is_expected, is_like_first, held_length, top_of, type_of, set_connected, connection_told, added, joining, offered, piece_read, told}
use Rattle.proxy.specs.Tables.{is_wrong_cut, count_rows, CountTable, WriteTable, is_bad, connection_rows, ConnectionTable, is_unexpected, is_unlike_first, length_after, piece_rows, PieceTable}
use Rattle.proxy.specs.declared.HalfTransfer.{HalfTransfer}
use Rattle.proxy.specs.declared.Transfer.{Transfer}

-- ---- each condition denies a test of the definitions

not-cut : (z n : ℕ) → is_wrong_cut z n ≡ not (is_cut z n)
not-cut z n =
    rw (lt_not_le z 20, lt_not_le 514 z, lt_not_le n 1, lt_not_le 1469 n, not-both (is_size z) (is_length n), not-both (leb 20 z) (leb z 514), not-both (leb 1 n) (leb n 1469))

not_piece : (z t : ℕ) (m : List ℕ) (k : ℕ) → (is_wrong_cut z (length m) || (ltb 3 t || leb (length (message_pieces z t m)) k)) ≡ not (is_piece z t m k)
not_piece z t m k =
    let n = length m in
    let N = last_piece z n in
    rw (not-cut z n, lt_not_le 3 t, length-map-up-to (piece_octets z t m) (suc N), lt_not_le N k, not-both (is_cut z n) (is_type t && leb k N), not-both (is_type t) (leb k N))

none-not-some : (n : ℕ) → eqb n 0 ≡ not (leb 1 n)
none-not-some n =
    cases (leb 1 n)
    (λ e. rw e (ne_eqb n 0 (λ z. absurd (omega (arith, leb-true 1 n e)))))
    (λ e. rw e (eq-eqb n 0 (omega (arith, leb-false 1 n e))))

not_three : (a b c : Bool) → (not a || not b || not c || false) ≡ not (c && (a && b))
not_three a b true = or-false _ ∙ or-false _ ∙ sym (not-both a b)
not_three a b false = or-false _ ∙ or-true (not a || not b)

bad-not-good : (connected : Bool) (h : Option HalfTransfer) → is_bad connected h ≡ not (is_good_half connected h)
bad-not-good connected None = refl
bad-not-good false (Some h) = or-true (eqb h.length 0 || ltb 1469 h.length || ltb 3 h.kind)
bad-not-good true (Some h) =
    rw (none-not-some h.length, lt_not_le 1469 h.length, lt_not_le 3 h.kind) (not_three (leb 1 h.length) (leb h.length 1469) (leb h.kind 3))

not-expected : (h : Option HalfTransfer) (top : ℕ) → is_unexpected h top ≡ not (is_expected h top)
not-expected None top = lt_not_le 1 top
not-expected (Some h) top = lt_not_le top 2

unlike-not-like : (h : Option HalfTransfer) (u : ℕ) → is_unlike_first h u ≡ not (is_like_first h u)
unlike-not-like None u = refl
unlike-not-like (Some h) u = refl

held_with : (h : Option HalfTransfer) (more : ℕ) → length_after h more ≡ held_length h + more
held_with None more = sym (zero-add more)
held_with (Some h) more = refl

-- ---- the tables

pub count-table : CountTable
unfolding pieces_counted
count-table z t m =
    by-table (count_told (pieces_counted z (length m))) (count_rows z t m) refl
    (rw (not-cut z (length m), length-map-up-to (piece_octets z t m) (suc (last_piece z (length m))))
    (cases (is_cut z (length m)) (λ e. rw e) (λ e. rw e)))

pub write-table : WriteTable
write-table z t m k output = rw (not_piece z t m k) (writer-table (is_piece z t m k) (piece_octets z t m k) output)

pub connection-table : ConnectionTable
unfolding set_connected is_good
connection-table c s =
    by-table (connection_told (set_connected c s).answer) (connection_rows s) refl
    (rw (bad-not-good s.connected s.half) (cases (is_good_half s.connected s.half) (λ g. rw g) (λ g. rw g)))

first-row : (s : Transfer) (room : ℕ) (p : List ℕ) → first_of (piece_rows s room p) ≡ some (told (piece_read s room p).answer)
unfolding piece_read is_good offered joining added
first-row s room p =
    rw (bad-not-good s.connected s.half, lt_not_le (length p) 2, lt_not_le 3 (type_of p), not-expected s.half (top_of p), unlike-not-like s.half (type_of p), held_with s.half (length p - 1), lt_not_le 1469 (held_length s.half + (length p - 1)))
    (cases (eqb room 1469)
    (λ e. rw e (cases (is_good_half s.connected s.half)
    (λ e. rw e (cases s.connected
    (λ e. rw e (cases (leb 2 (length p))
    (λ e. rw e (cases (is_type (type_of p))
    (λ e. rw e (cases (is_expected s.half (top_of p))
    (λ e. rw e (cases (is_like_first s.half (type_of p))
    (λ e. rw e (cases (leb (held_length s.half + (length p - 1)) 1469)
    (λ e. rw e (cases (eqb (top_of p) 0 || eqb (top_of p) 3) (λ e. rw e) (λ e. rw e)))
    (λ e. rw e)))
    (λ e. rw e)))
    (λ e. rw e)))
    (λ e. rw e)))
    (λ e. rw e)))
    (λ e. rw e)))
    (λ e. rw e)))
    (λ e. rw e))

pub piece-table : PieceTable
piece-table s room p = by-table (told (piece_read s room p).answer) (piece_rows s room p) refl (first-row s room p)
