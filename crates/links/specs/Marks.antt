-- The marks of a half-received message, as the bits of a number: bit k says that segment k is in.
use Rattle.std.specs.Prelude.{ℕ, zero, suc, ◌/◌, ◌%◌, ◌^◌, Bool, ◌&&◌, eqb}
use Rattle.std.specs.Int.Bits.{bit_or}

-- segment k is in
unfoldable pub is_marked : ℕ → ℕ → Bool
is_marked marks k = eqb (marks / 2 ^ k % 2) 1

-- the marks with segment k in too
unfoldable pub with_mark : ℕ → ℕ → ℕ
with_mark marks k = bit_or marks (2 ^ k)

-- each of segments 0 to n is in
abbrev pub all_marked : ℕ → ℕ → Bool
all_marked zero marks = is_marked marks 0
all_marked (suc n) marks = is_marked marks (suc n) && all_marked n marks

-- none above segment n is in
unfoldable pub none_above : ℕ → ℕ → Bool
none_above n marks = eqb (marks / 2 ^ suc n) 0
