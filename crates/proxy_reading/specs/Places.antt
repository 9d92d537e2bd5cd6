-- Where a piece stands in its message, as a number: "top two bits 0 whole, 1 first, 2 middle, 3 last".
use Rattle.std.specs.Prelude.{ℕ}
use Rattle.proxy_reading.specs.declared.Place.{Place}
use Rattle.proxy_reading.specs.declared.Place.TheVariants.{Whole, First, Middle, Last}

abbrev pub top_bits : Place → ℕ
top_bits Whole = 0
top_bits First = 1
top_bits Middle = 2
top_bits Last = 3
