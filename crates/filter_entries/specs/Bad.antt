-- ENTRIES THAT AREN'T BAD, of which the first n are held, in document 01's words and by none of the tests of `Entries.antt`. The proof is
-- `proofs/Bad.antt`.
use Rattle.std.specs.Prelude.{ℕ, ◌≤◌, ◌<◌, true, List, ◌≢◌, ◌↔◌, ◌≡◌, length, get_or}
use Rattle.filter_entries.specs.Entries.{unused, are_good}

-- the address at a place, counted from 0
abbrev pub address_at : List ℕ → ℕ → ℕ
address_at l i = get_or l i unused

-- bad is "a filter of over 16 addresses, with a repeat or 0x0000, or not 0 past its count"
pub record NotBad (n : ℕ) (l : List ℕ) : Type 0 where
  pub few : n ≤ 16
  pub different : (i j : ℕ) → i < j → j < n → j < length l → address_at l i ≢ address_at l j
  pub nonzero : (i : ℕ) → i < n → i < length l → address_at l i ≢ 0
  pub past : (i : ℕ) → n ≤ i → i < length l → address_at l i ≡ 0

abbrev pub BadEntries : Type 0
BadEntries = (n : ℕ) (l : List ℕ) → (are_good n l ≡ true) ↔ NotBad n l
