-- A tray: its link records, and what the table has of each socket; and what a line does to it and writes. Quotations are of `docs/IMPORT.md`.
use Rattle.std.specs.Prelude.{ℕ, List, [], get_or, set, replicate, None, Option, Some}
use Rattle.line_fields.specs.declared.Word.TheVariants as W
use Rattle.transactions.specs.Numbers.{socket_place}
use Rattle.transactions.specs.declared.Socket.{Socket}
use Rattle.links.specs.Links.{blank}
use Rattle.links.specs.Station.{Station}
use Rattle.links.specs.declared.Side.TheVariants.{Provisioner}
use Rattle.links.specs.declared.Link.{Link}
use Rattle.stock_table.specs.Rows.{socket_row}
use Rattle.stock_table.specs.Columns.{row_line}
use Rattle.stock_table.specs.declared.Row.{Row}
use Rattle.import_tray.specs.declared.Stock.{Stock}
use Rattle.import_tray.specs.declared.Stock.TheVariants as S
use Rattle.import_tray.specs.declared.Tray.{Tray}
use Rattle.import_tray.specs.declared.Step.{Step}

abbrev pub tray_of : List Link → List Stock → Tray
tray_of links stock = record { links = links; stock = stock }

-- at the start: eight free sockets, never opened
abbrev pub new_tray : Tray
new_tray = tray_of (replicate 8 (blank Provisioner)) (replicate 8 S.Unopened)

abbrev pub with_links : Tray → List Link → Tray
with_links tray links = tray_of links tray.stock

-- what the table has of the socket at a place, and the tray with that changed
abbrev pub stock_at : Tray → ℕ → Stock
stock_at tray s = get_or tray.stock s S.Unopened

abbrev pub with_stock : Tray → ℕ → Stock → Tray
with_stock tray s stock = tray_of tray.links (set tray.stock s stock)

-- the records and the lent area together
abbrev pub station_of : Tray → List ℕ → Station
station_of tray area = record { links = tray.links; area = area }

-- ---- what a line does and writes

abbrev pub step_to : Tray → Option Row → Step
step_to tray report = record { tray = tray; report = report }

-- a row is written
abbrev pub row_after : Tray → Row → Step
row_after tray row = step_to tray (Some row)

-- nothing is written
abbrev pub nothing_after : Tray → Step
nothing_after tray = step_to tray None

-- the text of a report
abbrev pub report_text : Option Row → List ℕ
report_text None = []
report_text (Some row) = row_line row

-- ---- after the last line: "`missing`: opened, and no record since; `unopened`: never opened"

abbrev pub last_by : Stock → Socket → Option Row
last_by S.Unopened socket = Some (socket_row W.Unopened socket)
last_by S.Missing socket = Some (socket_row W.Missing socket)
last_by (S.Recorded c) socket = None

abbrev pub last_report : Tray → Socket → Option Row
last_report tray socket = last_by (stock_at tray (socket_place socket)) socket
