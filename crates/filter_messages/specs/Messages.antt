-- The messages of the proxy filter, in document 01's order.
use Rattle.std.specs.Prelude.{ℕ, ◌-◌, ◌%◌, ◌&&◌, cond, List, [], ◌∷◌, leb, eqb, length, get_or, Result, Ok, Err}
use Rattle.octets.specs.Numbers.{octets16}
use Rattle.octets.specs.Told.{Told, refused, answered}
use Rattle.filter_messages.specs.declared.FilterType.{FilterType}
use Rattle.filter_messages.specs.declared.FilterType.TheVariants.{AcceptList, RejectList}
use Rattle.filter_messages.specs.declared.Change.{Change}
use Rattle.filter_messages.specs.declared.Change.TheVariants.{Add, Remove}
use Rattle.filter_messages.specs.declared.Request.{Request}
use Rattle.filter_messages.specs.declared.Request.TheVariants as Q
use Rattle.filter_messages.specs.declared.FilterRefusal.{FilterRefusal}
use Rattle.filter_messages.specs.declared.FilterRefusal.TheVariants as R
use Rattle.filter_messages.specs.declared.Status.{Status}

-- ---- a type's octet: "0 accept, 1 reject"

abbrev pub type_number : FilterType → ℕ
type_number AcceptList = 0
type_number RejectList = 1

-- "34 type above 1"
abbrev pub type_numbered : ℕ → Result FilterType FilterRefusal
type_numbered n = cond (eqb n 0) (Ok AcceptList) (cond (eqb n 1) (Ok RejectList) (Err R.UnknownType))

-- ---- a message: "31 empty, 32 opcode above 2, 33 length, 34 type above 1"

-- "Opcode 0 has one octet", the type: "0 accept, 1 reject"
abbrev pub set_type : Result FilterType FilterRefusal → Result Request FilterRefusal
set_type (Ok kind) = Ok (Q.SetType kind)
set_type (Err r) = Err r

unfoldable pub type_of : List ℕ → Result Request FilterRefusal
type_of m = cond (eqb (length m - 1) 1) (set_type (type_numbered (get_or m 1 0))) (Err R.WrongLength)

-- "1 adds, 2 removes, any even number of octets up to 32, none allowed"
unfoldable pub change_of : Change → List ℕ → Result Request FilterRefusal
change_of c m = cond (leb (length m - 1) 32 && eqb ((length m - 1) % 2) 0) (Ok (Q.Change c)) (Err R.WrongLength)

-- what a message asks for, by its first octet
unfoldable pub request_of : List ℕ → Result Request FilterRefusal
request_of m =
    cond (eqb (length m) 0) (Err R.Empty)
    (cond (eqb (get_or m 0 0) 0) (type_of m)
    (cond (eqb (get_or m 0 0) 1) (change_of Add m)
    (cond (eqb (get_or m 0 0) 2) (change_of Remove m)
    (Err R.UnknownOpcode))))

-- ---- the status message: "03, type, count in two octets"

abbrev pub status_octets : FilterType → ℕ → List ℕ
status_octets kind count = 0x03 ∷ type_number kind ∷ octets16 count

-- ---- document 01's numbers and words

abbrev pub refusal_number : FilterRefusal → ℕ
refusal_number R.BadState = 14
refusal_number R.Empty = 31
refusal_number R.UnknownOpcode = 32
refusal_number R.WrongLength = 33
refusal_number R.UnknownType = 34
refusal_number R.NotUnicast = 35

-- what a message asks for: the type's number, to add, or to remove
abbrev pub request_told : Result Request FilterRefusal → Told
request_told (Ok (Q.SetType kind)) = answered "set type" (type_number kind ∷ [])
request_told (Ok (Q.Change Add)) = answered "add" []
request_told (Ok (Q.Change Remove)) = answered "remove" []
request_told (Err r) = refused (refusal_number r)

abbrev pub told : Result Status FilterRefusal → Told
told (Ok s) = answered "status" (status_octets s.kind s.count)
told (Err r) = refused (refusal_number r)
