-- THE SOCKETS AFTER THE LAST LINE, for any log: `unopened`, `missing` and no row each say what the lines did to that socket. The proofs are
-- `proofs/Sockets.antt`. Quotations are of `docs/IMPORT.md`.
use Rattle.std.specs.Prelude.{ℕ, true, List, ◌∷◌, ◌++◌, ◌↔◌, ◌≡◌, None, Option, Some}
use Rattle.transactions.specs.Numbers.{is_socket}
use Rattle.transactions.specs.declared.Socket.{Socket}
use Rattle.provisioning.specs.declared.Capabilities.{Capabilities}
use Rattle.line_fields.specs.declared.Word.TheVariants as W
use Rattle.stock_table.specs.Rows.{socket_row}
use Rattle.stock_table.specs.declared.Row.{Row}
use Rattle.import_tray.specs.Trays.{last_report}
use Rattle.import_log.specs.Logs.{after_all, at_first}
use Rattle.import_log.specs.Records.{Opens, LatestOpening, RecordedSince}

-- "never opened": no line opens socket s
abbrev pub NeverOpened : List (List ℕ) → Socket → Type 0
NeverOpened lines s =
    (before : List (List ℕ)) (line : List ℕ) (rest : List (List ℕ)) → lines ≡ before ++ (line ∷ rest)
    → (id : ℕ) → Opens (after_all at_first before) line s id → ⊥

-- "opened, and no record since"
pub record NoRecordSince (lines : List (List ℕ)) (s : Socket) : Type 0 where
  pub id : ℕ
  pub opened : LatestOpening lines s id
  pub none : (c : Capabilities) → RecordedSince opened c → ⊥

-- opened, and a record since
pub record HasRecord (lines : List (List ℕ)) (s : Socket) : Type 0 where
  pub id : ℕ
  pub opened : LatestOpening lines s id
  pub fields : Capabilities
  pub recorded : RecordedSince opened fields

-- what is written of socket s after the last of lines from the start
abbrev pub report_of : List (List ℕ) → Socket → Option Row
report_of lines s = last_report (after_all at_first lines).log.tray s

pub record SocketTold (lines : List (List ℕ)) (s : Socket) : Type 0 where
  pub unopened : (report_of lines s ≡ Some (socket_row W.Unopened s)) ↔ NeverOpened lines s
  pub missing : (report_of lines s ≡ Some (socket_row W.Missing s)) ↔ NoRecordSince lines s
  pub nothing : (report_of lines s ≡ None) ↔ HasRecord lines s

abbrev pub SocketsTold : Type 0
SocketsTold = (lines : List (List ℕ)) (s : Socket) → is_socket s 8 ≡ true → SocketTold lines s
