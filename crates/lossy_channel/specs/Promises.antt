-- What is promised of the channel beyond each call's contract. The proofs are `proofs/Promises.antt`.
use Rattle.std.specs.Prelude.{ℕ, ◌%◌, ◌≤◌, ◌<◌, ◌≡◌}
use Rattle.lossy_channel.specs.Channels.{new_channel, drawn, carried}
use Rattle.lossy_channel.specs.declared.Channel.{Channel}
use Rattle.lossy_channel.specs.declared.Fate.TheVariants.{Lost, Once, Twice}

-- a number from which others are drawn: 1 to 2,147,483,646
abbrev pub IsDrawn : ℕ → Type 0
IsDrawn n = (0 < n) × (n < 2147483647)

-- no seed leads to 0, behind which there is nothing but 0
pub record NeverZero : Type 0 where
  pub new : (seed lost repeated : ℕ) → IsDrawn (new_channel seed lost repeated).number
  pub draw : (c : Channel) → IsDrawn c.number → IsDrawn (drawn c).number
  pub carry : (c : Channel) → IsDrawn c.number → IsDrawn (carried c).channel.number

-- 0 loses none and repeats none; 100 loses all, and repeats all that are not lost
pub record Extremes : Type 0 where
  pub loses-none : (c : Channel) → c.lost ≡ 0 → (carried c).fate ≡ Lost → ⊥
  pub loses-all : (c : Channel) → 100 ≤ c.lost → (carried c).fate ≡ Lost
  pub repeats-none : (c : Channel) → c.repeated ≡ 0 → (carried c).fate ≡ Twice → ⊥
  pub repeats-all : (c : Channel) → 100 ≤ c.repeated → (carried c).fate ≡ Once → ⊥

-- "the frame is lost if the first of them mod 100 is less than LOST; else it comes twice if the second mod 100 is less than REPEATED; else once"
pub record FateByTwo (c : Channel) : Type 0 where
  pub lost : (drawn c).number % 100 < c.lost → (carried c).fate ≡ Lost
  pub twice : c.lost ≤ (drawn c).number % 100 → (drawn (drawn c)).number % 100 < c.repeated → (carried c).fate ≡ Twice
  pub once : c.lost ≤ (drawn c).number % 100 → c.repeated ≤ (drawn (drawn c)).number % 100 → (carried c).fate ≡ Once
  pub after : (carried c).channel ≡ drawn (drawn c)

abbrev pub Fates : Type 0
Fates = (c : Channel) → FateByTwo c

-- the first two numbers of minstd_rand behind 1, which is what seed 0 begins with
pub record Published : Type 0 where
  pub first : (drawn (new_channel 0 0 0)).number ≡ 48271
  pub second : (drawn (drawn (new_channel 0 0 0))).number ≡ 182605794
