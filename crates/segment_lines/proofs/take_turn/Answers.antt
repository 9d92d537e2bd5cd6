use mathlib.Core.Bool.{false≢true}
use mathlib.Core.Path.{refl, sym, ◌∙◌}
use Rattle.segment_lines.proofs.take_turn.Goals as goal

pub returns-then-is_whole : goal.returns-then-is_whole
returns-then-is_whole g c =
    let r = c.read_on-read in
    let w = sym c.is_whole.ensures ∙ c.if-is_whole.true in
    record {
      read = r.result;
      piece = r.ensures;
      whole = λ _. c.end_line.ensures;
      begun = λ n. absurd (false≢true (sym n ∙ w));
    }

pub returns : goal.returns
returns g c =
    let r = c.read_on-read in
    let n = sym c.is_whole.ensures ∙ c.if-is_whole.false in
    record {
      read = r.result;
      piece = r.ensures;
      whole = λ w. absurd (false≢true (sym n ∙ w));
      begun = λ _. (refl, refl);
    }
