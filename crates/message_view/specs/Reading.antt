-- A read of one field: what stands at a place of a message, and the place behind it.
use Rattle.std.specs.Prelude.{ℕ, ◌+◌, cond, List, [], ◌∷◌, leb, length, get_or, Result, Ok, Err}
use Rattle.octets.specs.Numbers.{big16}
use Rattle.octets.specs.Told.{Told, refused, answered}
use Rattle.message_view.specs.declared.Step.{Step}
use Rattle.message_view.specs.declared.Wanted.{Wanted}
use Rattle.message_view.specs.declared.Wanted.TheVariants as W
use Rattle.message_view.specs.declared.FieldRead.{FieldRead}
use Rattle.message_view.specs.declared.FieldRead.TheVariants as F
use Rattle.message_view.specs.declared.PastEnd.{PastEnd}

-- how many octets are wanted
abbrev pub size_of : Wanted → ℕ
size_of W.Octet = 1
size_of W.Pair = 2
size_of (W.Long n) = n

-- what stands at a place that is within the message
abbrev pub value_at : List ℕ → ℕ → Wanted → FieldRead
value_at m place W.Octet = F.Octet (get_or m place 0)
value_at m place W.Pair = F.Pair (big16 m place)
value_at m place (W.Long n) = F.Long (record { place = place; length = n })

abbrev pub past_end : PastEnd
past_end = record {}

-- "A read past the end gives 44 and doesn't move."
unfoldable pub field_at : List ℕ → ℕ → Wanted → Step
field_at m place wanted =
    cond (leb (place + size_of wanted) (length m)) (record { next = place + size_of wanted; field = Ok (value_at m place wanted) })
    (record { next = place; field = Err past_end })

-- what was read, in document 01's terms
abbrev pub field_told : FieldRead → Told
field_told (F.Octet x) = answered "octet" (x ∷ [])
field_told (F.Pair x) = answered "pair" (x ∷ [])
field_told (F.Long f) = answered "field" (f.place ∷ f.length ∷ [])

-- or its refusal
abbrev pub told : Result FieldRead PastEnd → Told
told (Ok x) = field_told x
told (Err past) = refused 44
