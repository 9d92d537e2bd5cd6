-- The segments of a message: "Segment 0 has up to 20 octets, the others up to 23, all full but the last."
use Rattle.std.specs.Prelude.{ℕ, List, length}
use Rattle.octets.specs.Cut.{place_of, last_of, size_of, piece}

-- SegN: the least number with L at most 20 + 23 SegN (`least-seg_n`)
abbrev pub seg_n : ℕ → ℕ
seg_n n = last_of 20 23 n

-- the place of segment k in the message: 0, then 20 + 23 (k - 1)
abbrev pub segment_place : ℕ → ℕ
segment_place k = place_of 20 23 k

-- the length of segment k of a message of n octets
abbrev pub segment_length : ℕ → ℕ → ℕ
segment_length n k = size_of segment_place n k

-- segment k of a message
abbrev pub segment : List ℕ → ℕ → List ℕ
segment m k = piece segment_place (length m) m k
