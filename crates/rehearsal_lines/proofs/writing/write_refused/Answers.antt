use Prim.Native.Nat.{◌+◌}
use mathlib.Core.Path.{◌≡◌}
use lib.ListN.{length, take, set}
use borrow.Author.Rules.{rules}
use Rattle.rehearsal_lines.specs.Lines.{refused_line}
use Rattle.rehearsal_lines.proofs.Refusals.{put_front, refused-few}
use Rattle.rehearsal_lines.proofs.writing.write_refused.Goals as goal
use Rattle.rehearsal_lines.proofs.writing.write_refused.Goals.{After-copy-2}

twenty : (c : After-copy-2) → length c.decimal_text-digits.result.text ≡ 20
twenty c = search rules

front : (c : After-copy-2) → let digits = c.decimal_text-digits.result in
    take (11 + digits.length) (set c.copy-2.new.to (10 + digits.length) 10) ≡ refused_line c.args.line
front c = put_front _ _ (twenty c) c.decimal_text-digits.ensures c.copy.ensures.1 c.copy-2.ensures.1

pub returns : goal.returns
returns c =
    let s = (goal.at.returns c).After-copy-2 in
    let all = rw (front s) at c.write_text.ensures in
    (all.0, all.1, refused-few _ _ (twenty s) c.decimal_text-digits.ensures)
