-- Laws of reading: what a piece can do, by cases.
use Prim.Native.Nat.{ℕ, ◌+◌, ◌-◌, ◌≤◌}
use mathlib.Core.Bool.{true, false, cond}
use mathlib.Core.List.{List}
use mathlib.Core.Path.{◌≡◌, refl}
use lib.Dec.{leb, eqb}
use lib.ListN.{length}
use borrow.Author.Tests.{leb-true, eqb-true}
use Rattle.octets.proofs.Tests.{cases, both}
use Rattle.proxy.specs.Pieces.{is_type}
use Rattle.proxy.specs.Transfers.{is_good, top_of, type_of, held_length, is_expected, is_like_first, refusing, disconnecting, added, joining, offered, piece_read, refusal_number}
use Rattle.proxy.specs.Promises.{disconnects}
use Rattle.proxy.specs.declared.Transfer.{Transfer}
use Rattle.proxy.specs.declared.PieceRefusal.{PieceRefusal}
use Rattle.proxy.specs.declared.PieceRefusal.TheVariants as R
use Rattle.proxy.specs.declared.PieceRead.{PieceRead}

-- the number of octets that are there after a piece
abbrev pub total : Transfer → List ℕ → ℕ
total s p = held_length s.half + (length p - 1)

-- what is known of a piece that is added
pub record Fits (s : Transfer) (room : ℕ) (p : List ℕ) : Type 0 where
  pub whole-buffer : room ≡ 1469
  pub some-data : 2 ≤ length p
  pub known-type : is_type (type_of p) ≡ true
  pub few-octets : total s p ≤ 1469

pub data Outcome (s : Transfer) (room : ℕ) (p : List ℕ) : PieceRead → Type 0 where
  refuses : (r : PieceRefusal) → disconnects (refusal_number r) ≡ false → Outcome s room p (refusing s r)
  drops : (r : PieceRefusal) → disconnects (refusal_number r) ≡ true → Outcome s room p (disconnecting r)
  adds : Fits s room p → Outcome s room p (added (top_of p) (type_of p) (total s p))

outcome-joining : (s : Transfer) (room : ℕ) (p : List ℕ) → room ≡ 1469 → 2 ≤ length p → is_type (type_of p) ≡ true
    → Outcome s room p (joining s.half (top_of p) (type_of p) (length p - 1))
unfolding joining
outcome-joining s room p a b c =
    cases (is_expected s.half (top_of p))
    (λ e. rw e (cases (is_like_first s.half (type_of p))
    (λ e. rw e (cases (leb (total s p) 1469)
    (λ e. rw e (adds (record { whole-buffer = a; some-data = b; known-type = c; few-octets = leb-true (total s p) 1469 e })))
    (λ e. rw e (drops R.TooLong refl))))
    (λ e. rw e (drops R.OtherType refl))))
    (λ e. rw e (drops R.UnexpectedTopBits refl))

outcome-offered : (s : Transfer) (room : ℕ) (p : List ℕ) → room ≡ 1469 → Outcome s room p (offered s p)
unfolding offered
outcome-offered s room p a =
    cases (leb 2 (length p))
    (λ b. rw b (cases (is_type (type_of p))
    (λ c. rw c (outcome-joining s room p a (leb-true 2 (length p) b) c))
    (λ c. rw c (refuses R.ReservedType refl))))
    (λ b. rw b (refuses R.NoData refl))

pub outcome : (s : Transfer) (room : ℕ) (p : List ℕ) → Outcome s room p (piece_read s room p)
unfolding piece_read
outcome s room p =
    cases (eqb room 1469)
    (λ a. rw a (cases (is_good s)
    (λ e. rw e (both (λ c. Outcome s room p (cond c (offered s p) (refusing s R.Disconnected))) s.connected
    (λ c. outcome-offered s room p (eqb-true room 1469 a))
    (λ c. refuses R.Disconnected refl)))
    (λ e. rw e (refuses R.BadState refl))))
    (λ a. rw a (refuses R.WrongArgument refl))
