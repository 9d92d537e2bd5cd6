-- Numbers of several octets, big-endian.
use Rattle.std.specs.Prelude.{ℕ, ◌+◌, ◌*◌, ◌/◌, ◌%◌, ◌<◌, List, [], ◌∷◌, get_or}

-- every element of the list is an octet
abbrev pub Octets : List ℕ → Type 0
Octets l = (i : ℕ) → get_or l i 0 < 256

-- the number in the two octets from a place on; octets past the end count as 0
abbrev pub big16 : List ℕ → ℕ → ℕ
big16 l at = get_or l at 0 * 256 + get_or l (at + 1) 0

-- the number in the four octets from a place on
abbrev pub big32 : List ℕ → ℕ → ℕ
big32 l at = big16 l at * 65536 + big16 l (at + 2)

-- a number below 2 ^ 16 in two octets
abbrev pub octets16 : ℕ → List ℕ
octets16 n = n / 256 ∷ n % 256 ∷ []

-- a number below 2 ^ 32 in four octets
abbrev pub octets32 : ℕ → List ℕ
octets32 n = n / 16777216 ∷ n / 65536 % 256 ∷ n / 256 % 256 ∷ n % 256 ∷ []
