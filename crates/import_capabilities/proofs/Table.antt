-- The table of a log (`specs/Table.antt`).
use Prim.Native.Nat.{ℕ, suc, ◌≤◌}
use native.Mathlib.Nat.{zero-add}
use native.Mathlib.Omega.{arith}
use mathlib.Core.Bool.{true, false, cond}
use mathlib.Core.List.{List, [], ◌∷◌, ◌++◌, append_assoc, append-nil}
use mathlib.Core.Path.{◌≡◌, refl, sym, ap, ◌∙◌, subst}
use lib.ListN.{length, replicate}
use Rattle.octets.proofs.Tests.{cases}
use Rattle.octets.proofs.Parts.{write-longer, write-front}
use Rattle.lines.specs.Streams.{nothing_read, piece_in, with_waiting, EndWaits, is_whole}
use Rattle.lines.specs.declared.Streams.{Streams}
use Rattle.lines.specs.Lines.{Reading, at_start, Follows}
use Rattle.lines.specs.Lines.Follows.{begins as Reading-begins}
use Rattle.lines.specs.Runs.{Runs}
use Rattle.lines.specs.Runs.Runs.{begins, goes}
use Rattle.lines.proofs.Laws.{text_same, text-within, end-found, end_more}
use Rattle.lines.proofs.Lines.{lines-found, lines-begun, reads_on}
use Rattle.line_fields.specs.Lines.{line_of}
use Rattle.stock_table.specs.Columns.{header_line}
use Rattle.import_tray.specs.Trays.{report_text, last_report}
use Rattle.import_tray.specs.declared.Tray.{Tray}
use Rattle.import_tray.specs.declared.Step.{Step}
use Rattle.import_log.specs.Logs.{next_number, log_of, Import, report_in, after, after_all, text_from, at_first, sockets_text, last_text}
use Rattle.import_log.specs.declared.Log.{Log}
use Rattle.held_line.specs.Held.{held_of}
use Rattle.held_line.specs.Lines.{without_return, begun, held_text, Holds}
use Rattle.held_line.specs.declared.HeldLine.{HeldLine}
use Rattle.held_line.proofs.Promises.{line-holds, held-does-the-same}
use Rattle.import_capabilities.specs.declared.Progress.{Progress}
use Rattle.import_capabilities.specs.Turns.{RowWaits, whole_line, line_taken, SocketsPut, LastPut}
use Rattle.import_capabilities.specs.Turns.SocketsPut.{none, more}
use Rattle.import_capabilities.specs.Runs.{State, state_of, Starts, TurnTo, put_by, read_by, program, first, Ran}
use Rattle.import_capabilities.specs.Table.{WholeTable, ShortTable}

-- ---- lines behind lines

all_more : (m : Import) (a b : List (List ℕ)) → after_all m (a ++ b) ≡ after_all (after_all m a) b
all_more m [] b = refl
all_more m (l ∷ a) b = all_more (after m l) a b

text-more : (m : Import) (a b : List (List ℕ)) → text_from m (a ++ b) ≡ text_from m a ++ text_from (after_all m a) b
text-more m [] b = refl
text-more m (l ∷ a) b =
    rw (text-more (after m l) a b) (sym (append_assoc (report_text (report_in m l)) (text_from (after m l) a) (text_from (after_all (after m l) a) b)))

-- what is held of a line does what the line does
held_after : (m : Import) (line : List ℕ) → (report_in m (held_of line) ≡ report_in m line) × (after m (held_of line) ≡ after m line)
held_after m line =
    let h = held-does-the-same line m.log.tray m.area (next_number m.log.lines) in
    (ap (λ (s : Step). s.report) h.0, λ i. record { log = log_of (h.0 i).tray (next_number m.log.lines); area = h.1 i })

-- what is held of a line at its end
held_whole : (s : Streams) (l : HeldLine) (line : List ℕ) → Holds l line → held_text (whole_line s l) ≡ held_of (cond s.ends (without_return line) line)
held_whole s l line h = cases s.ends (λ e. rw e h.text) (λ e. rw e (line-holds.end l line h))

header-short : length header_line ≤ 315
unfolding header_line line_of
header-short = omega arith

-- ---- a run and its reading

-- the import between two lines
abbrev import_of : State → Import
import_of σ = record { log = σ.progress.log; area = σ.area }

-- the text put so far, with the header
abbrev put_for : List (List ℕ) → List ℕ
put_for lines = header_line ++ text_from at_first lines

record Agrees (input : List ℕ) (x : Reading) (text : List ℕ) (σ : State) : Type 0 where
  follows : Follows without_return input x
  streams : σ.progress.streams ≡ with_waiting x.streams σ.progress.streams.waiting σ.progress.streams.taken
  same-input : σ.input ≡ x.input
  room : 315 ≤ length σ.output
  held : Holds σ.progress.line x.held
  imported : import_of σ ≡ after_all at_first x.whole
  put : text ≡ put_for x.whole
  waits : EndWaits text σ.progress.streams σ.output

module _ (input : List ℕ) (x : Reading) (text : List ℕ) (σ : State) (a : Agrees input x text σ) (found : σ.progress.streams.found ≡ true)
    (τ : State) (t : TurnTo σ τ) where
  abbrev read : Progress
  read = t.read

  -- the line so far, all of it
  abbrev line : List ℕ
  line = x.held ++ piece_in read.streams τ.input

  -- the line at its end
  abbrev ended : List ℕ
  ended = cond read.streams.ends (without_return line) line

  follows_on : Follows without_return input (read_by σ τ t x)
  follows_on =
      reads_on a.follows σ.progress.streams a.streams found σ.input a.same-input σ.output a.waits.fits read.streams τ.input t.piece.found

  held-line : Holds read.line line
  held-line =
      subst (λ (l : HeldLine). Holds l line) (sym t.piece.line)
      (line-holds.piece σ.progress.line x.held (piece_in read.streams τ.input) a.held)

  whole_is : is_whole read.streams (begun read.line) ≡ is_whole read.streams (length line)
  whole_is = rw (line-holds.some read.line line held-line)

  held-ended : held_text (whole_line read.streams read.line) ≡ held_of ended
  held-ended = held_whole read.streams read.line line held-line

  end_read : EndWaits text read.streams σ.output
  end_read = end-found a.waits σ.input read.streams τ.input t.piece.found

  -- the import as the turn's line finds it
  abbrev here : Import
  here = record { log = read.log; area = σ.area }

  here-is : here ≡ after_all at_first x.whole
  here-is = (λ i. record { log = t.piece.log i; area = σ.area }) ∙ a.imported

  -- the turn goes on with its line
  goes_on : is_whole read.streams (begun read.line) ≡ false → Agrees input (read_by σ τ t x) (text ++ put_by σ τ t) τ
  goes_on e =
      let b = t.goes e in
      let n = sym whole_is ∙ e in
      record {
        follows = follows_on;
        streams = rw (ap (λ (p : Progress). p.streams) b.0) refl;
        same-input = refl;
        room = rw b.2 a.room;
        held = rw (b.0, n) held-line;
        imported = rw (b.0, b.1, n, append-nil x.whole) here-is;
        put = rw (e, n, append-nil x.whole, append-nil text) a.put;
        waits = rw (e, append-nil text, b.0, b.2) end_read;
      }

  -- what the line writes
  abbrev row : List ℕ
  row = report_text (line_taken read σ.area).report

  row_is : row ≡ report_text (report_in (after_all at_first x.whole) ended)
  row_is =
      ap (λ (l : List ℕ). report_text (report_in here l)) held-ended
      ∙ ap report_text (held_after here ended).0
      ∙ ap (λ (m : Import). report_text (report_in m ended)) here-is

  -- the turn ends its line
  ends : is_whole read.streams (begun read.line) ≡ true → Agrees input (read_by σ τ t x) (text ++ put_by σ τ t) τ
  ends e =
      let b = t.whole e in
      let y = sym whole_is ∙ e in
      let w = b.text.waits in
      let within = text-within read.streams σ.output 315 row τ.progress.streams τ.output w a.room in
      record {
        follows = follows_on;
        streams = text_same read.streams σ.output 315 row τ.progress.streams τ.output w;
        same-input = refl;
        room = omega (arith, within.0, a.room);
        held = rw (b.none, y) line-holds.none;
        imported = rw (y, all_more at_first x.whole (ended ∷ []))
            ((λ i. record { log = b.log i; area = b.lent i }) ∙ ap (λ (l : List ℕ). after here l) held-ended ∙ (held_after here ended).1
            ∙ ap (λ (m : Import). after m ended) here-is);
        put = rw (e, y, text-more at_first x.whole (ended ∷ []), append-nil (report_text (report_in (after_all at_first x.whole) ended)))
            (ap (λ (l : List ℕ). l ++ row) a.put ∙ append_assoc header_line (text_from at_first x.whole) row
            ∙ ap (λ (l : List ℕ). header_line ++ (text_from at_first x.whole ++ l)) row_is);
        waits = rw e (end_more end_read 315 row τ.progress.streams τ.output a.room b.text.short w);
      }

-- the start of the program
started : (input output : List ℕ) → 315 ≤ length output → (p : Progress) (output_at_start : List ℕ) → Starts output p output_at_start
    → Agrees input (at_start input) header_line (state_of p input (replicate 11752 0) output_at_start)
started input output room p output_at_start s =
    let long = write-longer output 0 header_line (omega arith) in
    let put = ap length s.put in
    let waits = ap (λ (x : Streams). x.waiting) s.streams in
    record {
      follows = Reading-begins;
      streams = subst (λ (x : Streams). x ≡ with_waiting nothing_read x.waiting x.taken) (sym s.streams) refl;
      same-input = refl;
      room = omega (arith, long.1);
      held = rw s.line line-holds.none;
      imported = λ i. record { log = s.log i; area = replicate 11752 0 };
      put = sym (append-nil header_line);
      waits = record { before = []; all = rw (waits, s.put) (sym (rw zero-add at (write-front output 0 header_line (omega (arith, room, header-short))))); fits = omega (arith, long.0) };
    }

agrees : (input output : List ℕ) → 315 ≤ length output → (p : Progress) (output_at_start : List ℕ) → Starts output p output_at_start
    → (n : ℕ) (x : Reading) (text : List ℕ) (σ : State) → Runs program (first p input output_at_start) n x text σ → Agrees input x text σ
agrees input output room p output_at_start s n x text σ begins = started input output room p output_at_start s
agrees input output room p output_at_start s n x text σ (goes {x = y} {text = before} {σ = π} runs found τ t) =
    let a = agrees input output room p output_at_start s _ y before π runs in
    cases (is_whole t.read.streams (begun t.read.line)) (ends input y before π a found τ t) (goes_on input y before π a found τ t)

-- ---- the rows after the last line

-- one row more
row_more : {text : List ℕ} {s : Streams} {output : List ℕ} (row : List ℕ) (r : Streams) (after : List ℕ) → 315 ≤ length output → EndWaits text s output
    → RowWaits s output row r after → EndWaits (text ++ row) r after × (315 ≤ length after)
row_more {text} {s} {output} row r after room w h =
    (end_more w 315 row r after room h.short h.waits, omega (arith, (text-within s output 315 row r after h.waits room).0))

sockets-put : (tray : Tray) (text : List ℕ) (s : Streams) (output : List ℕ) → 315 ≤ length output → EndWaits text s output
    → (n : ℕ) (r : Streams) (after : List ℕ) → SocketsPut tray s output n r after → EndWaits (text ++ sockets_text tray n) r after × (315 ≤ length after)
sockets-put tray text s output room w n r after none = (rw (append-nil text) w, room)
sockets-put tray text s output room w n r after (more {n = k} {before = b} {between = between} m t) =
    let before = sockets-put tray text s output room w k b between m in
    let row = report_text (last_report tray (record { 0 = suc k })) in
    let h = row_more row r after before.1 before.0 t in
    (rw (← (append_assoc text (sockets_text tray k) row)) h.0, h.1)

last-put : (log : Log) (text : List ℕ) (s : Streams) (output : List ℕ) → 315 ≤ length output → EndWaits text s output
    → (r : Streams) (after : List ℕ) → LastPut log s output r after → EndWaits (text ++ last_text log) r after
last-put log text s output room w r after h =
    let before = sockets-put log.tray text s output room w 8 h.between h.output_between h.sockets in
    rw (← (append_assoc text (sockets_text log.tray 8) _)) (row_more _ r after before.1 before.0 h.last).0

-- ---- the promises

module _ (input output : List ℕ) (room : 315 ≤ length output) (r : Progress) (input_after area_at_end output_after : List ℕ)
    (ran : Ran input output r input_after area_at_end output_after) where
  last-agrees : Agrees input ran.run.reading ran.run.text (state_of ran.last input_after area_at_end ran.output_at_last)
  last-agrees = agrees input output room ran.start ran.output_at_start ran.starts _ _ _ _ ran.run.runs

  abbrev whole : List (List ℕ)
  whole = ran.run.reading.whole

  over-is : ran.last.streams.over ≡ ran.run.reading.streams.over
  over-is = ap (λ (s : Streams). s.over) last-agrees.streams

  found-is : ran.last.streams.found ≡ ran.run.reading.streams.found
  found-is = ap (λ (s : Streams). s.found) last-agrees.streams

  log_is : ran.last.log ≡ (after_all at_first whole).log
  log_is = ap (λ (m : Import). m.log) last-agrees.imported

pub whole-table : WholeTable
whole-table input output room r input_after area_at_end output_after ran over =
    let a = last-agrees input output room r input_after area_at_end output_after ran in
    let lines = ran.run.reading.whole in
    let found = lines-found without_return input ran.run.reading a.follows (sym (over-is input output room r input_after area_at_end output_after ran) ∙ over) in
    let put : ran.run.text ++ last_text ran.last.log ≡ header_line ++ (text_from at_first lines ++ last_text (after_all at_first lines).log) =
    rw (a.put, log_is input output room r input_after area_at_end output_after ran) (append_assoc header_line (text_from at_first lines) (last_text (after_all at_first lines).log)) in (
      put ∙ ap (λ (l : List (List ℕ)). header_line ++ (text_from at_first l ++ last_text (after_all at_first l).log)) found,
      last-put ran.last.log ran.run.text ran.last.streams ran.output_at_last a.room a.waits ran.streams output_after (ran.end.whole over),
    )

pub short-table : ShortTable
short-table input output room r input_after area_at_end output_after ran short =
    let a = last-agrees input output room r input_after area_at_end output_after ran in
    let lines = ran.run.reading.whole in
    let e = ran.end.short short in
    let Begun-Lines =
    lines-begun without_return input ran.run.reading a.follows (sym (over-is input output room r input_after area_at_end output_after ran) ∙ short) in
    record {
      rows = λ n. a.put ∙ ap put_for (Begun-Lines.lines (sym (found-is input output room r input_after area_at_end output_after ran) ∙ n));
      front = λ more₁.
          let b = Begun-Lines.front more₁ in
          let tail = last_text (after_all at_first (lines ++ b.0)).log in
          let rest = text_from (after_all at_first lines) b.0 in (
            rest ++ tail,
            ap (λ (l : List (List ℕ)). header_line ++ (text_from at_first l ++ last_text (after_all at_first l).log)) b.1
                ∙ ap (λ (l : List ℕ). header_line ++ (l ++ tail)) (text-more at_first lines b.0)
                ∙ ap (λ (l : List ℕ). header_line ++ l) (append_assoc (text_from at_first lines) rest tail)
                ∙ sym (append_assoc header_line (text_from at_first lines) (rest ++ tail))
                ∙ ap (λ (l : List ℕ). l ++ (rest ++ tail)) (sym a.put),
          );
      waits = rw (e.0, e.1) a.waits;
    }
