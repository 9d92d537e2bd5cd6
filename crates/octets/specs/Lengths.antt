-- How long a message may be, over PB-ADV and over a proxy.
use Rattle.std.specs.Prelude.{ℕ, Bool, ◌&&◌, leb}

-- "L is 1 to 1,469"; "A message of n octets, 1 to 1,469"
abbrev pub is_length : ℕ → Bool
is_length n = leb 1 n && leb n 1469
