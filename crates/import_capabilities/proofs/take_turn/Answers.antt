use mathlib.Core.Bool.{false≢true}
use Prim.Native.Nat.{ℕ}
use mathlib.Core.Path.{refl, sym, ap, ◌∙◌}
use Rattle.lines.specs.Streams.{is_whole}
use Rattle.import_capabilities.proofs.take_turn.Goals as goal

pub shape_of-input-then-is_whole : goal.shape_of-input-then-is_whole
shape_of-input-then-is_whole g c = c.next_piece-streams.auto.input

pub returns-then-is_whole : goal.returns-then-is_whole
returns-then-is_whole g c =
    let all = ap (λ (k : ℕ). is_whole c.next_piece-streams.result k) (sym c.begun-begun.ensures) ∙ sym c.is_whole.ensures ∙ c.if-is_whole.true in
    let x = rw c.whole_line-whole.ensures at c.take_held-taken.ensures in
    record {
      read = record { streams = c.next_piece-streams.result; line = c.hold_piece-line.result; log = c.args.progress.log };
      piece = record { found = c.next_piece-streams.ensures.0; line = c.hold_piece-line.ensures; log = refl };
      whole =
          λ _. record {
            text = rw x.0 at c.put_report.ensures;
            none = c.empty_line.ensures;
            log = rw x.0;
            lent = x.1;
          };
      goes = λ none. absurd (false≢true (sym none ∙ all));
    }

pub returns : goal.returns
returns g c =
    let none = ap (λ (k : ℕ). is_whole c.next_piece-streams.result k) (sym c.begun-begun.ensures) ∙ sym c.is_whole.ensures ∙ c.if-is_whole.false in
    record {
      read = record { streams = c.next_piece-streams.result; line = c.hold_piece-line.result; log = c.args.progress.log };
      piece = record { found = c.next_piece-streams.ensures.0; line = c.hold_piece-line.ensures; log = refl };
      whole = λ all. absurd (false≢true (sym none ∙ all));
      goes = λ _. (refl, refl, refl);
    }
