-- The table of what a filter message asks for, and the status, to be held beside document 01. The proofs are `proofs/Tables.antt`.
use Rattle.std.specs.Prelude.{ℕ, ◌-◌, ◌/◌, ◌%◌, Bool, ◌&&◌, ◌||◌, not, cond, List, [], ◌∷◌, ◌++◌, ◌≡◌, ltb, eqb, length, get_or}
use Rattle.octets.specs.Tables.{Row, refusal, reply, ByTable}
use Rattle.filter_messages.specs.Messages.{request_of, request_told, status_octets}
use Rattle.filter_messages.specs.declared.FilterType.TheVariants.{AcceptList, RejectList}

-- "Opcode 0 has one octet."; 1 and 2 have "any even number of octets up to 32, none allowed"
abbrev pub is_wrong_length : ℕ → ℕ → Bool
is_wrong_length opcode count = cond (eqb opcode 0) (not (eqb count 1)) (ltb 32 count || not (eqb (count % 2) 0))

-- "Refusals in order: 31 empty, 32 opcode above 2, 33 length, 34 type above 1."
abbrev pub message_refusals : List ℕ → List Row
message_refusals m =
    let opcode = get_or m 0 0 in
    refusal 31 (eqb (length m) 0)
    ∷ refusal 32 (ltb 2 opcode)
    ∷ refusal 33 (is_wrong_length opcode (length m - 1))
    ∷ refusal 34 (eqb opcode 0 && ltb 1 (get_or m 1 0))
    ∷ []

-- "Opcode 0 sets the type (0 accept, 1 reject) [..]; 1 adds, 2 removes"
abbrev pub requests : List ℕ → List Row
requests m =
    let opcode = get_or m 0 0 in
    reply "set type" (get_or m 1 0 ∷ []) (eqb opcode 0)
    ∷ reply "add" [] (eqb opcode 1)
    ∷ reply "remove" [] (eqb opcode 2)
    ∷ []

abbrev pub request_rows : List ℕ → List Row
request_rows m = message_refusals m ++ requests m

abbrev pub RequestTable : Type 0
RequestTable = (m : List ℕ) → ByTable (request_told (request_of m)) (request_rows m)

-- "The answer is 03, type, count in two octets."
pub record StatusSays (count : ℕ) : Type 0 where
  pub accept : status_octets AcceptList count ≡ 0x03 ∷ 0 ∷ count / 256 ∷ count % 256 ∷ []
  pub reject : status_octets RejectList count ≡ 0x03 ∷ 1 ∷ count / 256 ∷ count % 256 ∷ []

abbrev pub AllStatusesSay : Type 0
AllStatusesSay = (count : ℕ) → StatusSays count
