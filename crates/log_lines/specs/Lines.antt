-- The lines of a tray's log: what kind a line is, and what is written. Quotations are of `docs/IMPORT.md`.
use Rattle.std.specs.Prelude.{ℕ, ◌+◌, ◌-◌, Bool, ◌&&◌, ◌||◌, cond, Option, Some, None, List, [], ◌∷◌, ◌++◌, leb, eqb, length, get_or, drop}
use Rattle.octets.specs.Numbers.{big32, octets32}
use Rattle.hexadecimal.specs.Hex.{all_digits, is_hexadecimal, octets_of, text_of}
use Rattle.transactions.specs.declared.Socket.{Socket}
use Rattle.log_lines.specs.declared.Opening.{Opening}

-- ---- what kind of line it is

-- "an even number of hexadecimal digits, two or more"
abbrev pub is_frame : List ℕ → Bool
is_frame line = is_hexadecimal line && leb 2 (length line)

abbrev pub is_marked_sent : List ℕ → Bool
is_marked_sent line = eqb (get_or line 0 0) 62

-- "`>` and an even number of hexadecimal digits, two or more"
abbrev pub is_sent : List ℕ → Bool
is_sent line = is_marked_sent line && is_frame (drop 1 line)

-- ten characters that begin with "a socket digit `1` to `8`, one space"
unfoldable pub begins_opening : List ℕ → Bool
begins_opening line = eqb (length line) 10 && (leb 49 (get_or line 0 0) && (leb (get_or line 0 0) 56 && eqb (get_or line 1 0) 32))

-- and end with "eight hexadecimal digits"
abbrev pub is_opening : List ℕ → Bool
is_opening line = begins_opening line && all_digits (drop 2 line)

-- the socket and the Link ID that it opens
abbrev pub socket_in : List ℕ → Socket
socket_in line = record { 0 = get_or line 0 0 - 48 }

abbrev pub id_in : List ℕ → ℕ
id_in line = big32 (octets_of (drop 2 line)) 0

unfoldable pub opening_of : List ℕ → Option Opening
opening_of line = cond (is_opening line) (Some (record { socket = socket_in line; id = id_in line })) None

-- "`#` and anything; or nothing at all"
abbrev pub is_passed : List ℕ → Bool
is_passed line = eqb (length line) 0 || eqb (get_or line 0 0) 35

-- ---- what is written, each line without its newline

abbrev pub opening_text : Socket → ℕ → List ℕ
opening_text s id = (48 + s.0) ∷ 32 ∷ text_of (octets32 id)

abbrev pub heard_text : List ℕ → List ℕ
heard_text frame = text_of frame

abbrev pub sent_text : List ℕ → List ℕ
sent_text frame = 62 ∷ text_of frame

abbrev pub ended : List ℕ → List ℕ
ended line = line ++ (10 ∷ [])
