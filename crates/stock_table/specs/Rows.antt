-- The rows of the stock table, by what they say. Quotations are of `docs/IMPORT.md`.
use Rattle.std.specs.Prelude.{ℕ, Option, Some, None, Result, Ok, Err}
use Rattle.line_fields.specs.declared.Word.{Word}
use Rattle.line_fields.specs.declared.Word.TheVariants as W
use Rattle.line_fields.specs.declared.Field.{Field}
use Rattle.line_fields.specs.declared.Field.TheVariants as F
use Rattle.transactions.specs.declared.Socket.{Socket}
use Rattle.provisioning.specs.declared.Capabilities.{Capabilities}
use Rattle.provisioning.specs.declared.Message.{Message}
use Rattle.provisioning.specs.declared.Message.TheVariants as M
use Rattle.provisioning.specs.declared.MessageRefusal.{MessageRefusal}
use Rattle.stock_table.specs.declared.Origin.{Origin}
use Rattle.stock_table.specs.declared.Row.{Row}

abbrev pub origin_of : Field → Field → Field → Origin
origin_of socket id number = record { socket = socket; id = id; number = number }

-- no value for any of the three
abbrev pub unknown : Origin
unknown = origin_of F.Empty F.Empty F.Empty

abbrev pub row_of : Word → Field → Origin → Field → Field → Option Capabilities → Row
row_of what line origin refusal message stated =
    record { what = what; line = line; origin = origin; refusal = refusal; message = message; stated = stated }

-- what it is, and where it comes from
abbrev pub bare_row : Word → Field → Origin → Row
bare_row what line origin = row_of what line origin F.Empty F.Empty None

-- `record`, `repeated`, `conflict`: "line, socket, link_id, number, message (`Capabilities`), and the eight fields"
abbrev pub record_row : Word → ℕ → Origin → Capabilities → Row
record_row what line origin c = row_of what (F.Decimal line) origin F.Empty (F.Word W.Capabilities) (Some c)

-- the name of a message
abbrev pub message_word : Message → Word
message_word (M.Invite attention) = W.Invite
message_word (M.Capabilities c) = W.Capabilities
message_word (M.Start c) = W.Start
message_word (M.PublicKey x y) = W.PublicKey
message_word M.InputComplete = W.InputComplete
message_word (M.Confirmation c) = W.Confirmation
message_word (M.Random r) = W.Random
message_word (M.Data d mic) = W.Data
message_word M.Complete = W.Complete
message_word (M.Failed code) = W.Failed

-- a refusal has none
abbrev pub word_of : Result Message MessageRefusal → Field
word_of (Ok m) = F.Word (message_word m)
word_of (Err r) = F.Empty

-- `message`: "line, socket, link_id, number, message (the name as document 01 writes it)"
abbrev pub message_row : ℕ → Origin → Result Message MessageRefusal → Row
message_row line origin m = row_of W.Message (F.Decimal line) origin F.Empty (word_of m) None

-- `refused`: "line, refusal", and what is known of where it comes from
abbrev pub refused_row : ℕ → Origin → ℕ → Row
refused_row line origin n = row_of W.Refused (F.Decimal line) origin (F.Decimal n) F.Empty None

-- `missing` and `unopened`: "socket"
abbrev pub socket_row : Word → Socket → Row
socket_row what socket = bare_row what F.Empty (origin_of (F.Decimal socket.0) F.Empty F.Empty)

-- `end`: "line: how many lines there were"
abbrev pub end_row : ℕ → Row
end_row lines = bare_row W.End (F.Decimal lines) unknown
