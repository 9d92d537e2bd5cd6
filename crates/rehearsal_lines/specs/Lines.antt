-- The lines of a rehearsal. Quotations are of `docs/REHEARSAL.md`.
use Rattle.std.specs.Prelude.{ℕ, ◌+◌, ◌*◌, ◌-◌, ◌/◌, Bool, true, ◌&&◌, cond, Option, Some, None, List, [], ◌∷◌, ◌++◌, leb, eqb, length, get_or, take, drop}
use Rattle.octets.specs.Lengths.{is_length}
use Rattle.octets.specs.Parts.{same, write}
use Rattle.hexadecimal.specs.Hex.{is_hexadecimal, octets_of}
use Rattle.line_fields.specs.Lines.{decimal_of}
use Rattle.log_lines.specs.Lines.{is_passed, is_opening, socket_in, id_in}
use Rattle.rehearsal_lines.specs.declared.Line.{Line}
use Rattle.rehearsal_lines.specs.declared.Line.TheVariants.{Module, Channel, Passed, Other}

-- ---- the channel

unfoldable pub is_digit : ℕ → Bool
is_digit c = leb 48 c && leb c 57

abbrev pub all_decimal : List ℕ → Bool
all_decimal [] = true
all_decimal (c ∷ t) = is_digit c && all_decimal t

-- the value of decimal digits behind a value
abbrev pub value_from : ℕ → List ℕ → ℕ
value_from v [] = v
value_from v (c ∷ t) = value_from (v * 10 + (c - 48)) t

-- "decimal numbers of one digit or more", at most so much
abbrev pub is_decimal : List ℕ → ℕ → Bool
is_decimal text most = leb 1 (length text) && (all_decimal text && leb (value_from 0 text) most)

unfoldable pub decimal_read : List ℕ → ℕ → Option ℕ
decimal_read text most = cond (is_decimal text most) (Some (value_from 0 text)) None

-- what stands before the first space, and what stands behind it
abbrev pub field : List ℕ → List ℕ
field [] = []
field (c ∷ t) = cond (eqb c 32) [] (c ∷ field t)

abbrev pub behind : List ℕ → List ℕ
behind text = drop (length (field text) + 1) text

-- "LOST and REPEATED at most 100"
unfoldable pub rates_of : ℕ → List ℕ → Line
rates_of seed rates =
    cond (is_decimal (field rates) 100 && is_decimal (behind rates) 100)
    (Channel seed (value_from 0 (field rates)) (value_from 0 (behind rates)))
    Other

-- "SEED at most 4,294,967,295"
unfoldable pub settings_of : List ℕ → Line
settings_of settings = cond (is_decimal (field settings) 4294967295) (rates_of (value_from 0 (field settings)) (behind settings)) Other

-- `channel` and a space
abbrev pub channel_word : List ℕ
channel_word = 99 ∷ 104 ∷ 97 ∷ 110 ∷ 110 ∷ 101 ∷ 108 ∷ 32 ∷ []

-- ---- a module

-- the digits of its message
abbrev pub message_digits : List ℕ → List ℕ
message_digits line = drop 11 line

-- "`S LLLLLLLL MESSAGE`": an opening line of a log, a space, and the digits of a message of 1 to 1,469 octets
abbrev pub is_module : List ℕ → Bool
is_module line =
    is_opening (take 10 line)
    && (eqb (get_or line 10 0) 32
    && (is_hexadecimal (message_digits line)
    && is_length (length (message_digits line) / 2)))

-- whether it is one whose message the room holds
abbrev pub is_held : List ℕ → List ℕ → Bool
is_held line room = is_module line && leb (length (message_digits line) / 2) (length room)

unfoldable pub module_of : List ℕ → List ℕ → Line
module_of line room = cond (is_held line room) (Module (socket_in line) (id_in (take 10 line)) (length (message_digits line) / 2)) Other

unfoldable pub module_room : List ℕ → List ℕ → List ℕ
module_room line room = cond (is_held line room) (write room 0 (octets_of (message_digits line))) room

-- ---- a line

abbrev pub is_channel : List ℕ → Bool
is_channel line = same (take 8 line) channel_word

-- WHAT A LINE SAYS
unfoldable pub line_of : List ℕ → List ℕ → Line
line_of line room = cond (is_passed line) Passed (cond (is_channel line) (settings_of (drop 8 line)) (module_of line room))

-- the room after it: the octets of a module's message at its start, or as it was
unfoldable pub room_after : List ℕ → List ℕ → List ℕ
room_after line room = cond (is_passed line) room (cond (is_channel line) room (module_room line room))

-- "`# refused LINE` with its number"
unfoldable pub refused_line : ℕ → List ℕ
refused_line number = (35 ∷ 32 ∷ 114 ∷ 101 ∷ 102 ∷ 117 ∷ 115 ∷ 101 ∷ 100 ∷ 32 ∷ []) ++ (decimal_of number ++ (10 ∷ []))
