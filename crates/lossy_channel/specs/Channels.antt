-- A channel that loses and repeats frames as a seed says. The quotation is of `docs/REHEARSAL.md`.
use Rattle.std.specs.Prelude.{ℕ, ◌+◌, ◌*◌, ◌%◌, cond, ltb}
use Rattle.lossy_channel.specs.declared.Channel.{Channel}
use Rattle.lossy_channel.specs.declared.Fate.{Fate}
use Rattle.lossy_channel.specs.declared.Fate.TheVariants.{Lost, Once, Twice}
use Rattle.lossy_channel.specs.declared.Carried.{Carried}

-- the first number of a seed, and the number after a number
abbrev pub first_number : ℕ → ℕ
first_number seed = seed % 2147483646 + 1

abbrev pub drawn_after : ℕ → ℕ
drawn_after n = n * 48271 % 2147483647

abbrev pub new_channel : ℕ → ℕ → ℕ → Channel
new_channel seed lost repeated = record { number = first_number seed; lost = lost; repeated = repeated }

abbrev pub drawn : Channel → Channel
drawn c = record { number = drawn_after c.number; lost = c.lost; repeated = c.repeated }

-- "Of each hundred frames on their way, in the mean, LOST are lost, and of each hundred others REPEATED come twice": the fate by two numbers
abbrev pub fate_of : Channel → ℕ → ℕ → Fate
fate_of c first second = cond (ltb (first % 100) c.lost) Lost (cond (ltb (second % 100) c.repeated) Twice Once)

-- A FRAME ON ITS WAY, and the channel after it
abbrev pub carried : Channel → Carried
carried c = record { channel = drawn (drawn c); fate = fate_of c (drawn c).number (drawn (drawn c)).number }
