-- What is promised of a rehearsal's lines beyond each call's contract: the form of each kind of line, and no other line is of that kind. Quotations
-- are of `docs/REHEARSAL.md`. The proofs are `proofs/Promises.antt`.
use Rattle.std.specs.Prelude.{ℕ, ◌+◌, ◌/◌, ◌≤◌, true, List, [], ◌∷◌, ◌++◌, ◌⊎◌, ◌↔◌, ◌≡◌, length, drop}
use Rattle.octets.specs.Numbers.{big32}
use Rattle.hexadecimal.specs.Hex.{all_digits, is_hexadecimal, octets_of}
use Rattle.transactions.specs.declared.Socket.{Socket}
use Rattle.line_fields.specs.Lines.{ascii}
use Rattle.log_lines.specs.Lines.{is_passed}
use Rattle.rehearsal_lines.specs.Lines.{all_decimal, value_from, channel_word, line_of, room_after, refused_line}
use Rattle.rehearsal_lines.specs.declared.Line.TheVariants.{Module, Channel, Passed, Other}

-- ---- the forms

-- "`#` and anything; or nothing at all"
abbrev pub SaysNothing : List ℕ → Type 0
SaysNothing line = (line ≡ []) ⊎ ((rest : List ℕ) × (line ≡ 35 ∷ rest))

-- a decimal number: one digit or more, of this value, which is at most so much
pub record Writes (text : List ℕ) (most value : ℕ) : Type 0 where
  pub some : 1 ≤ length text
  pub digits : all_decimal text ≡ true
  pub value_is : value_from 0 text ≡ value
  pub few : value ≤ most

-- "`channel SEED LOST REPEATED`"
abbrev pub channel_line : List ℕ → List ℕ → List ℕ → List ℕ
channel_line seed lost repeated = channel_word ++ (seed ++ (32 ∷ (lost ++ (32 ∷ repeated))))

-- "SEED at most 4,294,967,295, LOST and REPEATED at most 100"
pub record SaysChannel (line : List ℕ) (seed lost repeated : ℕ) : Type 0 where
  pub seed_text : List ℕ
  pub lost_text : List ℕ
  pub repeated_text : List ℕ
  pub form : line ≡ channel_line seed_text lost_text repeated_text
  pub seed_is : Writes seed_text 4294967295 seed
  pub lost_is : Writes lost_text 100 lost
  pub repeated_is : Writes repeated_text 100 repeated

-- "`S LLLLLLLL MESSAGE`"
abbrev pub module_line : ℕ → List ℕ → List ℕ → List ℕ
module_line socket id message = (48 + socket) ∷ 32 ∷ (id ++ (32 ∷ message))

-- a socket 1 to 8, a Link ID of eight digits, and a message of 1 to 1,469 octets, which the room holds
pub record SaysModule (line room : List ℕ) (socket : Socket) (id count : ℕ) : Type 0 where
  pub id_text : List ℕ
  pub message : List ℕ
  pub form : line ≡ module_line socket.0 id_text message
  pub socket_fits : (1 ≤ socket.0) × (socket.0 ≤ 8)
  pub id_digits : (length id_text ≡ 8) × (all_digits id_text ≡ true)
  pub id_is : big32 (octets_of id_text) 0 ≡ id
  pub message_digits : is_hexadecimal message ≡ true
  pub count_is : length message / 2 ≡ count
  pub count_fits : (1 ≤ count) × (count ≤ 1469) × (count ≤ length room)

-- ---- what a line says, and the room after it

pub record Kinds (line room : List ℕ) : Type 0 where
  pub passed : (line_of line room ≡ Passed) ↔ SaysNothing line
  pub channel : (seed lost repeated : ℕ) → (line_of line room ≡ Channel seed lost repeated) ↔ SaysChannel line seed lost repeated
  pub a_module : (socket : Socket) (id count : ℕ) → (line_of line room ≡ Module socket id count) ↔ SaysModule line room socket id count
  pub other : (line_of line room ≡ Other)
      ↔ ((SaysNothing line → ⊥)
      × ((seed lost repeated : ℕ) → SaysChannel line seed lost repeated → ⊥)
      × ((socket : Socket) (id count : ℕ) → SaysModule line room socket id count → ⊥))
  -- a message stands at the start of the room, and nothing behind it is changed
  pub filled : (socket : Socket) (id count : ℕ) (said : SaysModule line room socket id count)
      → room_after line room ≡ octets_of said.message ++ drop count room
  pub kept : ((socket : Socket) (id count : ℕ) → SaysModule line room socket id count → ⊥) → room_after line room ≡ room

abbrev pub KindsOfLines : Type 0
KindsOfLines = (line room : List ℕ) → Kinds line room

-- ---- a line that is refused

-- `# refused`, a space, digits of the line's number, and a newline; without the newline a reader of a log passes over it, and so does a reader of a
-- rehearsal
pub record Refused (number : ℕ) : Type 0 where
  pub digits : List ℕ
  pub form : refused_line number ≡ (ascii "# refused " ++ digits) ++ (10 ∷ [])
  pub number_is : Writes digits number number
  pub passed : is_passed (ascii "# refused " ++ digits) ≡ true

abbrev pub RefusedLineIsComment : Type 0
RefusedLineIsComment = (number : ℕ) → Refused number

-- ---- worked examples

pub record Examples : Type 0 where
  pub passed : line_of (ascii "# three modules") [] ≡ Passed
  pub channel : line_of (ascii "channel 7 30 30") [] ≡ Channel 7 30 30
  pub channel_above : line_of (ascii "channel 7 101 30") [] ≡ Other
  pub channel_colon : line_of (ascii "channel 7 3: 30") [] ≡ Other
  pub channel_slash : line_of (ascii "channel 7 3/ 30") [] ≡ Other
  pub a_module : line_of (ascii "1 23AF5850 00") (0 ∷ []) ≡ Module (record { 0 = 1 }) 0x23AF5850 1
  pub no_room : line_of (ascii "1 23AF5850 00") [] ≡ Other
  pub refused : refused_line 12 ≡ ascii "# refused 12" ++ (10 ∷ [])
