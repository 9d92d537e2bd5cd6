-- What is promised of transaction numbers and of SegN beyond each call's contract. The proof is `proofs/Laws.antt`.
use Rattle.std.specs.Prelude.{ℕ, ◌+◌, ◌*◌, ◌≤◌, ◌<◌, ◌≢◌, ◌≡◌}
use Rattle.transactions.specs.Numbers.{number_after}
use Rattle.transactions.specs.Segments.{seg_n}
use Rattle.transactions.specs.declared.TransactionNumber.{TransactionNumber}

abbrev pub number : ℕ → TransactionNumber
number n = record { 0 = n }

-- "We send 0x00 to 0x7F from 0x00, then 0x00 again. The device sends 0x80 to 0xFF."
pub record NumbersInTurn : Type 0 where
  pub next : (n : ℕ) → n < 0xFF → n ≢ 0x7F → number_after (number n) ≡ number (n + 1)
  pub ours-again : number_after (number 0x7F) ≡ number 0x00
  pub device-again : number_after (number 0xFF) ≡ number 0x80

-- "SegN is the least number with L at most 20 + 23 SegN."
pub record LeastSegN : Type 0 where
  pub enough : (n : ℕ) → n ≤ 20 + 23 * seg_n n
  pub least : (n k : ℕ) → n ≤ 20 + 23 * k → seg_n n ≤ k
