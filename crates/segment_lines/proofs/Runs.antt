-- The whole output (`specs/Runs.antt`).
use Prim.Native.Nat.{ℕ, ◌≤◌, min}
use native.Mathlib.Omega.{arith}
use mathlib.Core.Bool.{true, false}
use mathlib.Core.List.{List, [], ◌∷◌, ◌++◌, append_assoc, append-nil}
use mathlib.Core.Path.{◌≡◌, refl, sym, ap, ◌∙◌, subst}
use lib.Dec.{ltb}
use lib.ListN.{length, take, length-take}
use lib.Seq.{length-take-le, take-nil}
use borrow.Author.Tests.{ltb-true, ltb-false, lt-ltb, le-ltb}
use Rattle.octets.proofs.Tests.{cases}
use Rattle.transactions.specs.declared.TransactionNumber.{TransactionNumber}
use Rattle.line_buffer.proofs.Promises.{front-more}
use Rattle.hex_lines.specs.Lines.{line_text, line_next}
use Rattle.hex_lines.proofs.Promises.{enough, front-does-the-same}
use Rattle.lines.specs.Streams.{nothing_read, piece_in, with_waiting, EndWaits, is_whole}
use Rattle.lines.specs.declared.Streams.{Streams}
use Rattle.lines.specs.Lines.{as_it_stands, Reading, Follows}
use Rattle.lines.specs.Lines.Follows.{begins as Reading-begins}
use Rattle.lines.proofs.Laws.{text_same, text-within, end-found, end_more}
use Rattle.lines.proofs.Lines.{lines-found, line-stands, reads_on}
use Rattle.segment_lines.specs.declared.Progress.{Progress}
use Rattle.segment_lines.specs.Turns.{held_text}
use Rattle.segment_lines.specs.Runs.{State, first_number, state_of, TurnTo, put_by, read_by, program, first, text_from, WholeOutput, WholeRun}
use Rattle.lines.specs.Runs.{Runs, RunsTo}
use Rattle.lines.specs.Runs.Runs.{begins, goes}
use Rattle.lines.proofs.Runs.{runs-begin}

-- ---- the text of one line more

-- the number after lines
abbrev number_from : TransactionNumber → List (List ℕ) → TransactionNumber
number_from t [] = t
number_from t (line ∷ lines) = number_from (line_next t line) lines

number_more : (t : TransactionNumber) (lines : List (List ℕ)) (line : List ℕ) → number_from t (lines ++ (line ∷ [])) ≡ line_next (number_from t lines) line
number_more t [] line = refl
number_more t (l ∷ lines) line = number_more (line_next t l) lines line

text-more : (t : TransactionNumber) (lines : List (List ℕ)) (line : List ℕ)
    → text_from t (lines ++ (line ∷ [])) ≡ text_from t lines ++ line_text (number_from t lines) line
text-more t [] line = append-nil (line_text t line)
text-more t (l ∷ lines) line =
    rw (text-more (line_next t l) lines line) (sym (append_assoc (line_text t l) (text_from (line_next t l) lines) (line_text (number_from (line_next t l) lines) line)))

-- a line is whole by its characters and by those that are held of it
whole-alike : (r : Streams) (held : ℕ) (line : List ℕ) → held ≡ length (take 2939 line) → is_whole r held ≡ is_whole r (length line)
whole-alike r held line e =
    let h : held ≡ min 2939 (length line) = e ∙ length-take 2939 line in
    let same : ltb 0 held ≡ ltb 0 (length line) =
    cases (ltb 0 (length line)) (λ y. let p = ltb-true 0 (length line) y in rw (y, lt-ltb 0 held (omega arith)))
    (λ n. let p = ltb-false 0 (length line) n in rw (n, le-ltb 0 held (omega arith))) in
    rw same

-- ---- a run and its reading

record Agrees (input : List ℕ) (x : Reading) (text : List ℕ) (σ : State) : Type 0 where
  follows : Follows as_it_stands input x
  streams : σ.progress.streams ≡ with_waiting x.streams σ.progress.streams.waiting σ.progress.streams.taken
  same-input : σ.input ≡ x.input
  room : length σ.line ≡ 2939
  output-room : 3776 ≤ length σ.output
  held : held_text σ.progress σ.line ≡ take 2939 x.held
  number : σ.progress.number ≡ number_from first_number x.whole
  put : text ≡ text_from first_number x.whole
  waits : EndWaits text σ.progress.streams σ.output

module _ (input : List ℕ) (x : Reading) (text : List ℕ) (σ : State) (a : Agrees input x text σ) (found : σ.progress.streams.found ≡ true)
    (τ : State) (t : TurnTo σ τ) where
  abbrev read : Progress
  read = t.read

  -- the line so far, all of it
  abbrev line : List ℕ
  line = x.held ++ piece_in read.streams τ.input

  follows_on : Follows as_it_stands input (read_by σ τ t x)
  follows_on =
      reads_on a.follows σ.progress.streams a.streams found σ.input a.same-input σ.output a.waits.fits read.streams τ.input t.piece.found

  held-front : held_text read τ.line ≡ take 2939 line
  held-front =
      (rw (a.room, a.held) at t.piece.text) ∙ front-more 2939 x.held (piece_in read.streams τ.input)

  room_after : length τ.line ≡ 2939
  room_after = t.piece.room ∙ a.room

  whole_is : is_whole read.streams read.held ≡ is_whole read.streams (length line)
  whole_is =
      whole-alike read.streams read.held line (sym (length-take-le read.held τ.line t.piece.few) ∙ ap length held-front)

  end_read : EndWaits text read.streams σ.output
  end_read = end-found a.waits σ.input read.streams τ.input t.piece.found

  number_read : read.number ≡ number_from first_number x.whole
  number_read = t.piece.number ∙ a.number

  text-is : line_text read.number (held_text read τ.line) ≡ line_text (number_from first_number x.whole) line
  text-is =
      ap (line_text read.number) held-front ∙ (front-does-the-same read.number line).0 ∙ ap (λ (k : TransactionNumber). line_text k line) number_read

  -- the turn goes on with its line
  goes_on : is_whole read.streams read.held ≡ false → Agrees input (read_by σ τ t x) (text ++ put_by σ τ t) τ
  goes_on e =
      let b = t.begun e in
      let n = sym whole_is ∙ e in
      record {
        follows = follows_on;
        streams = rw (ap (λ (p : Progress). p.streams) b.0) refl;
        same-input = refl;
        room = room_after;
        output-room = rw b.1 a.output-room;
        held = rw (b.0, n) held-front;
        number = rw (b.0, n, append-nil x.whole) number_read;
        put = rw (e, n, append-nil x.whole, append-nil text) a.put;
        waits = rw (e, append-nil text, b.0, b.1) end_read;
      }

  -- the turn ends its line
  ends : is_whole read.streams read.held ≡ true → Agrees input (read_by σ τ t x) (text ++ put_by σ τ t) τ
  ends e =
      let b = t.whole e in
      let y = sym whole_is ∙ e in
      let within = text-within read.streams σ.output 3776 (line_text read.number (held_text read τ.line)) τ.progress.streams τ.output b.text a.output-room in
      record {
        follows = follows_on;
        streams = text_same read.streams σ.output 3776 (line_text read.number (held_text read τ.line)) τ.progress.streams τ.output b.text;
        same-input = refl;
        room = room_after;
        output-room = omega (arith, within.0, a.output-room);
        held = rw (b.none, y) (sym (take-nil 2939));
        number = rw (y, line-stands read.streams.ends line, number_more first_number x.whole line)
            (b.next ∙ ap (line_next read.number) held-front ∙ (front-does-the-same read.number line).1 ∙ ap (λ (k : TransactionNumber). line_next k line) number_read);
        put = rw (e, y, line-stands read.streams.ends line, text-more first_number x.whole line)
            (ap (λ (l : List ℕ). l ++ line_text read.number (held_text read τ.line)) a.put
            ∙ ap (λ (l : List ℕ). text_from first_number x.whole ++ l) text-is);
        waits = rw e
            (end_more end_read 3776 (line_text read.number (held_text read τ.line)) τ.progress.streams τ.output a.output-room
            (enough read.number (held_text read τ.line)) b.text);
      }

agrees : (input line output : List ℕ) → length line ≡ 2939 → 3776 ≤ length output
    → (n : ℕ) (x : Reading) (text : List ℕ) (σ : State) → Runs program (first input line output) n x text σ → Agrees input x text σ
agrees input line output room few n x text σ begins = record {
  follows = Reading-begins;
  streams = refl;
  same-input = refl;
  room = room;
  output-room = few;
  held = refl;
  number = refl;
  put = refl;
  waits = record { before = []; all = refl; fits = omega arith };
}
agrees input line output room few n x text σ (goes {x = y} {text = before} {σ = ρ} runs found τ t) =
    let a = agrees input line output room few _ y before ρ runs in
    cases (is_whole t.read.streams t.read.held) (ends input y before ρ a found τ t) (goes_on input y before ρ a found τ t)

pub whole-output : WholeOutput
whole-output input line output room few n x text σ runs over =
    let a = agrees input line output room few n x text σ runs in
    a.put ∙ ap (text_from first_number) (lines-found as_it_stands input x a.follows (sym (ap (λ (s : Streams). s.over) a.streams) ∙ over))

pub whole_run : WholeRun
whole_run input line output room few r input_after line_after output_after ran over =
    let runs = ran.run.runs in
    let ended = sym (ap (λ (s : Streams). s.over) ran.flushed.emptied) ∙ over in
    (whole-output input line output room few _ _ _ _ runs ended, (agrees input line output room few _ _ _ _ runs).waits)

-- the program starts with nothing read
pub runs-start : {input line output : List ℕ} (s : Streams) → s ≡ nothing_read
    → RunsTo program (first input line output) (state_of (record { streams = s; held = 0; number = first_number }) input line output) 18446744073709551615
runs-start {input} {line} {output} s e =
    subst (λ (x : Streams). RunsTo program (first input line output) (state_of (record { streams = x; held = 0; number = first_number }) input line output) 18446744073709551615)
    (sym e) (runs-begin program (first input line output) refl)
