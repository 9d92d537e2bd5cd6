-- What is promised of a log's lines beyond each call's contract. The proofs are `proofs/Promises.antt`.
use Rattle.std.specs.Prelude.{ℕ, ◌≤◌, ◌<◌, true, List, ◌≡◌, length}
use Rattle.octets.specs.Numbers.{Octets}
use Rattle.transactions.specs.Numbers.{is_socket}
use Rattle.transactions.specs.declared.Socket.{Socket}
use Rattle.log_lines.specs.Lines.{opening_text, heard_text, sent_text}
use Rattle.import_tray.specs.declared.Tray.{Tray}
use Rattle.import_frames.specs.Heard.{heard_step, heard_area}
use Rattle.import_frames.specs.Sent.{sent_step}
use Rattle.import_lines.specs.Lines.{opened_step, line_step, line_area}

-- what the writers of a log write, without its newline, is imported as what happened: the opening of that socket with that Link ID, that frame heard,
-- that frame sent
pub record ImportedAsWritten : Type 0 where
  pub opening : (tray : Tray) (area : List ℕ) (number : ℕ) (s : Socket) (id : ℕ) → is_socket s 8 ≡ true → id < 4294967296
      → (line_step tray area number (opening_text s id) ≡ opened_step tray number s id) × (line_area tray area (opening_text s id) ≡ area)
  pub heard : (tray : Tray) (area : List ℕ) (number : ℕ) (frame : List ℕ) → Octets frame → 1 ≤ length frame
      → (line_step tray area number (heard_text frame) ≡ heard_step tray area number frame) × (line_area tray area (heard_text frame) ≡ heard_area tray area frame)
  pub sent : (tray : Tray) (area : List ℕ) (number : ℕ) (frame : List ℕ) → Octets frame → 1 ≤ length frame
      → (line_step tray area number (sent_text frame) ≡ sent_step tray number frame) × (line_area tray area (sent_text frame) ≡ area)
