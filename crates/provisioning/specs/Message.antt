-- What octets say as a provisioning message: its fields where the layout has them, or refusals 41 to 45 in that order.
use Rattle.std.specs.Prelude.{ℕ, ◌+◌, Bool, false, ◌||◌, not, cond, List, [], ◌∷◌, ◌++◌, leb, eqb, length, get_or, Result, Ok, Err}
use Rattle.octets.specs.Numbers.{big16}
use Rattle.octets.specs.Told.{Told, refused, answered}
use Rattle.provisioning.specs.Layout.{parameter_length, field_place, field_size}
use Rattle.provisioning.specs.declared.Field.{Field}
use Rattle.provisioning.specs.declared.Capabilities.{Capabilities}
use Rattle.provisioning.specs.declared.Choice.{Choice}
use Rattle.provisioning.specs.declared.MessageRefusal.{MessageRefusal}
use Rattle.provisioning.specs.declared.MessageRefusal.TheVariants as R
use Rattle.provisioning.specs.declared.Message.{Message}
use Rattle.provisioning.specs.declared.Message.TheVariants as M

-- ---- field k of a message of a type

-- of one octet
abbrev pub octet_field : List ℕ → ℕ → ℕ → ℕ
octet_field m type k = get_or m (field_place type k) 0

-- of two octets, big-endian
abbrev pub pair_field : List ℕ → ℕ → ℕ → ℕ
pair_field m type k = big16 m (field_place type k)

-- a long one, by place and length
abbrev pub long_field : ℕ → ℕ → Field
long_field type k = record { place = field_place type k; length = field_size type k }

-- ---- the messages with their fields

abbrev pub capabilities_of : List ℕ → Capabilities
capabilities_of m = record {
  elements = octet_field m 1 0;
  algorithms = pair_field m 1 1;
  public_key_type = octet_field m 1 2;
  static_oob_type = octet_field m 1 3;
  output_oob_size = octet_field m 1 4;
  output_oob_action = pair_field m 1 5;
  input_oob_size = octet_field m 1 6;
  input_oob_action = pair_field m 1 7;
}

abbrev pub choice_of : List ℕ → Choice
choice_of m = record {
  algorithm = octet_field m 2 0;
  public_key = octet_field m 2 1;
  method = octet_field m 2 2;
  action = octet_field m 2 3;
  size = octet_field m 2 4;
}

-- the message of a type, 0 to 9
unfoldable pub message_of : List ℕ → ℕ → Message
message_of m type =
    cond (eqb type 0) (M.Invite (octet_field m 0 0))
    (cond (eqb type 1) (M.Capabilities (capabilities_of m))
    (cond (eqb type 2) (M.Start (choice_of m))
    (cond (eqb type 3) (M.PublicKey (long_field 3 0) (long_field 3 1))
    (cond (eqb type 4) M.InputComplete
    (cond (eqb type 5) (M.Confirmation (long_field 5 0))
    (cond (eqb type 6) (M.Random (long_field 6 0))
    (cond (eqb type 7) (M.Data (long_field 7 0) (long_field 7 1))
    (cond (eqb type 8) M.Complete
    (M.Failed (octet_field m 9 0))))))))))

-- ---- 45: "no elements; bits 1 to 7 of key type or static type; in Start, key above 1, method above 3, action or size not 0 in methods 0 and 1,
-- size 0 in methods 2 and 3; Failed with code 0"

unfoldable pub prohibited_capabilities : Capabilities → Bool
prohibited_capabilities c = eqb c.elements 0 || (leb 2 c.public_key_type || leb 2 c.static_oob_type)

unfoldable pub prohibited_choice : Choice → Bool
prohibited_choice c =
    leb 2 c.public_key
    || (leb 4 c.method
    || cond (leb c.method 1) (not (eqb c.action 0) || not (eqb c.size 0)) (eqb c.size 0))

abbrev pub is_prohibited : Message → Bool
is_prohibited (M.Invite attention) = false
is_prohibited (M.Capabilities c) = prohibited_capabilities c
is_prohibited (M.Start c) = prohibited_choice c
is_prohibited (M.PublicKey x y) = false
is_prohibited M.InputComplete = false
is_prohibited (M.Confirmation c) = false
is_prohibited (M.Random r) = false
is_prohibited (M.Data d mic) = false
is_prohibited M.Complete = false
is_prohibited (M.Failed code) = eqb code 0

-- 45, or the message
abbrev pub judged : Message → Result Message MessageRefusal
judged message = cond (is_prohibited message) (Err R.Prohibited) (Ok message)

-- ---- WHAT OCTETS SAY AS A MESSAGE: 41, 42, 43, 44, 45, or the message

abbrev pub type_of : List ℕ → ℕ
type_of m = get_or m 0 0

unfoldable pub message_read : List ℕ → Result Message MessageRefusal
message_read m =
    cond (eqb (length m) 0) (Err R.Empty)
    (cond (leb 0x40 (type_of m)) (Err R.Padding)
    (cond (leb 10 (type_of m)) (Err R.UnknownType)
    (cond (eqb (length m) (1 + parameter_length (type_of m))) (judged (message_of m (type_of m)))
    (Err R.WrongLength))))

-- document 01's number of a refusal
abbrev pub refusal_number : MessageRefusal → ℕ
refusal_number R.Empty = 41
refusal_number R.Padding = 42
refusal_number R.UnknownType = 43
refusal_number R.WrongLength = 44
refusal_number R.Prohibited = 45

-- a long field's values: its place and length
abbrev pub field_values : Field → List ℕ
field_values f = f.place ∷ f.length ∷ []

-- the message's name and its fields, in the order of the layout
abbrev pub message_told : Message → Told
message_told (M.Invite attention) = answered "Invite" (attention ∷ [])
message_told (M.Capabilities c) =
    answered "Capabilities" (
    c.elements
    ∷ c.algorithms
    ∷ c.public_key_type
    ∷ c.static_oob_type
    ∷ c.output_oob_size
    ∷ c.output_oob_action
    ∷ c.input_oob_size
    ∷ c.input_oob_action
    ∷ []
    )
message_told (M.Start c) = answered "Start" (c.algorithm ∷ c.public_key ∷ c.method ∷ c.action ∷ c.size ∷ [])
message_told (M.PublicKey x y) = answered "Public Key" (field_values x ++ field_values y)
message_told M.InputComplete = answered "Input Complete" []
message_told (M.Confirmation c) = answered "Confirmation" (field_values c)
message_told (M.Random r) = answered "Random" (field_values r)
message_told (M.Data d mic) = answered "Data" (field_values d ++ field_values mic)
message_told M.Complete = answered "Complete" []
message_told (M.Failed code) = answered "Failed" (code ∷ [])

-- the reader's answer: the message, or the refusal by its number
abbrev pub told : Result Message MessageRefusal → Told
told (Ok message) = message_told message
told (Err r) = refused (refusal_number r)
