-- Document 01's answers to octets that are read as a provisioning message, in the order in which they are tried, each with what it is given for: to
-- be read beside "Provisioning messages". No condition and no value goes by a definition of `Layout.antt` or `Message.antt`.
use Rattle.std.specs.Prelude.{ℕ, ◌+◌, Bool, ◌&&◌, ◌||◌, not, List, [], ◌∷◌, leb, ltb, eqb, length, get_or}
use Rattle.octets.specs.Numbers.{big16}
use Rattle.octets.specs.Tables.{Row, refusal, reply}

-- octet k of the message; octet 0 is the type
abbrev pub octet : List ℕ → ℕ → ℕ
octet m k = get_or m k 0

abbrev pub is_type : ℕ → List ℕ → Bool
is_type type m = eqb (octet m 0) type

-- "Type and parameter length: 0 Invite 1, 1 Capabilities 11, 2 Start 5, 3 Public Key 64, 4 Input Complete 0, 5 Confirmation 16, 6 Random 16,
-- 7 Data 33, 8 Complete 0, 9 Failed 1."
abbrev pub parameter_lengths : List ℕ
parameter_lengths = 1 ∷ 11 ∷ 5 ∷ 64 ∷ 0 ∷ 16 ∷ 16 ∷ 33 ∷ 0 ∷ 1 ∷ []

-- ---- 45, "prohibited value"

-- "no elements; bits 1 to 7 of key type or static type"
abbrev pub prohibited_in_capabilities : List ℕ → Bool
prohibited_in_capabilities m = eqb (octet m 1) 0 || (ltb 1 (octet m 4) || ltb 1 (octet m 5))

abbrev pub is_method : ℕ → List ℕ → Bool
is_method method m = eqb (octet m 3) method

-- "in Start, key above 1, method above 3, action or size not 0 in methods 0 and 1, size 0 in methods 2 and 3"
abbrev pub prohibited_in_start : List ℕ → Bool
prohibited_in_start m =
    ltb 1 (octet m 2)
    || (ltb 3 (octet m 3)
    || (((is_method 0 m || is_method 1 m) && (not (eqb (octet m 4) 0) || not (eqb (octet m 5) 0)))
    || ((is_method 2 m || is_method 3 m) && eqb (octet m 5) 0)))

-- "Failed with code 0"
abbrev pub prohibited_in_failed : List ℕ → Bool
prohibited_in_failed m = eqb (octet m 1) 0

abbrev pub has_prohibited_value : List ℕ → Bool
has_prohibited_value m =
    (is_type 1 m && prohibited_in_capabilities m)
    || ((is_type 2 m && prohibited_in_start m)
    || (is_type 9 m && prohibited_in_failed m))

-- ---- the values of an answer

-- "Capabilities: elements 1, algorithms 2, key type 1, static type 1, output size 1, output action 2, input size 1, input action 2."
abbrev pub capabilities_values : List ℕ → List ℕ
capabilities_values m = octet m 1 ∷ big16 m 2 ∷ octet m 4 ∷ octet m 5 ∷ octet m 6 ∷ big16 m 7 ∷ octet m 9 ∷ big16 m 10 ∷ []

abbrev pub start_values : List ℕ → List ℕ
start_values m = octet m 1 ∷ octet m 2 ∷ octet m 3 ∷ octet m 4 ∷ octet m 5 ∷ []

-- ---- THE TABLE: "41 empty; 42 first octet 0x40 or above; 43 type 0x0A to 0x3F; 44 length; 45 prohibited value [..] In that order."; "long fields
-- are given by place and length"
abbrev pub message_rows : List ℕ → List Row
message_rows m =
    refusal 41 (eqb (length m) 0)
    ∷ refusal 42 (leb 0x40 (octet m 0))
    ∷ refusal 43 (leb 0x0A (octet m 0) && leb (octet m 0) 0x3F)
    ∷ refusal 44 (not (eqb (length m) (1 + get_or parameter_lengths (octet m 0) 0)))
    ∷ refusal 45 (has_prohibited_value m)
    ∷ reply "Invite" (octet m 1 ∷ []) (is_type 0 m)
    ∷ reply "Capabilities" (capabilities_values m) (is_type 1 m)
    ∷ reply "Start" (start_values m) (is_type 2 m)
    ∷ reply "Public Key" (1 ∷ 32 ∷ 33 ∷ 32 ∷ []) (is_type 3 m)
    ∷ reply "Input Complete" [] (is_type 4 m)
    ∷ reply "Confirmation" (1 ∷ 16 ∷ []) (is_type 5 m)
    ∷ reply "Random" (1 ∷ 16 ∷ []) (is_type 6 m)
    ∷ reply "Data" (1 ∷ 25 ∷ 26 ∷ 8 ∷ []) (is_type 7 m)
    ∷ reply "Complete" [] (is_type 8 m)
    ∷ reply "Failed" (octet m 1 ∷ []) (is_type 9 m)
    ∷ []
