-- What is promised of the view beyond its contracts. The proofs are `proofs/Promises.antt`.
use Rattle.std.specs.Prelude.{ℕ, cond, List, [], ◌∷◌, map, ◌≡◌, leb, eqb, length, take, drop, Result}
use Prim.Native.String.{String}
use Rattle.octets.specs.Told.{Told, answered}
use Rattle.provisioning.specs.Layout.{sizes_of}
use Rattle.provisioning.specs.Message.{type_of, message_read, told as read_told}
use Rattle.message_view.specs.Reading.{field_at, told}
use Rattle.message_view.specs.declared.Wanted.{Wanted}
use Rattle.message_view.specs.declared.Wanted.TheVariants as W
use Rattle.message_view.specs.declared.FieldRead.{FieldRead}
use Rattle.message_view.specs.declared.PastEnd.{PastEnd}

-- a field of a size, as it is asked for
abbrev pub wanted_size : ℕ → Wanted
wanted_size n = cond (eqb n 1) W.Octet (cond (eqb n 2) W.Pair (W.Long n))

-- the fields of a type, read off the layout
abbrev pub wanted_of : ℕ → List Wanted
wanted_of type = map wanted_size (sizes_of type)

-- fields read one after the other, each from where the one before ended
abbrev pub read_all : List ℕ → ℕ → List Wanted → List (Result FieldRead PastEnd)
read_all m place [] = []
read_all m place (w ∷ ws) = (field_at m place w).field ∷ read_all m (field_at m place w).next ws

-- the place after them
abbrev pub read_to : List ℕ → ℕ → List Wanted → ℕ
read_to m place [] = place
read_to m place (w ∷ ws) = read_to m (field_at m place w).next ws

-- the word and the number of values of a field of a size
abbrev pub word_of : ℕ → String
word_of n = cond (eqb n 1) "octet" (cond (eqb n 2) "pair" "field")

abbrev pub value_count : ℕ → ℕ
value_count n = cond (leb n 2) 1 2

-- the values of a message as answers, one for each of its fields
abbrev pub fields_told : List ℕ → List ℕ → List Told
fields_told [] values = []
fields_told (n ∷ sizes) values = answered (word_of n) (take (value_count n) values) ∷ fields_told sizes (drop (value_count n) values)

-- read field by field behind the type octet, a message gives the values of the reader, and the last ends where the message does
pub record SameFields (m values : List ℕ) : Type 0 where
  pub fields : map told (read_all m 1 (wanted_of (type_of m))) ≡ fields_told (sizes_of (type_of m)) values
  pub end : read_to m 1 (wanted_of (type_of m)) ≡ length m

abbrev pub ViewReadsFields : Type 0
ViewReadsFields = (m : List ℕ) (name : String) (values : List ℕ) → read_told (message_read m) ≡ answered name values → SameFields m values
