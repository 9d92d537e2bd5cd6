-- "The check octet is that of 3GPP TS 27.010: x^8+x^2+x+1, reflected, start 0xFF, result complemented, over the message."
use Rattle.std.specs.Prelude.{ℕ, zero, suc, ◌-◌, ◌/◌, ◌%◌, cond, List, [], ◌∷◌, eqb}
use Rattle.std.specs.Int.Bits.{bit_xor}

-- one bit of the division: the low bit out, and the polynomial, reflected, taken away where it was set
unfoldable pub bit_step : ℕ → ℕ
bit_step x = cond (eqb (x % 2) 1) (bit_xor (x / 2) 0xE0) (x / 2)

-- so many bits of it
abbrev pub bit_steps : ℕ → ℕ → ℕ
bit_steps zero x = x
bit_steps (suc n) x = bit_steps n (bit_step x)

-- one octet of the division
unfoldable pub octet_step : ℕ → ℕ → ℕ
octet_step r x = bit_steps 8 (bit_xor r x)

-- the remainder after the octets of a list
abbrev pub remainder : ℕ → List ℕ → ℕ
remainder r [] = r
remainder r (x ∷ l) = remainder (octet_step r x) l

-- THE CHECK OCTET
unfoldable pub check_octet : List ℕ → ℕ
check_octet l = 0xFF - remainder 0xFF l
