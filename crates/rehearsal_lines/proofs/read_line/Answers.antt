use mathlib.Core.Bool.{true, false}
use lib.ListN.{take}
use mathlib.Core.Path.{◌≡◌, refl, sym, ◌∙◌}
use Rattle.log_lines.specs.Lines.{is_passed}
use Rattle.rehearsal_lines.specs.Lines.{channel_word, is_channel, line_of, room_after}
use Rattle.rehearsal_lines.proofs.Laws.{texts-compared}
use Rattle.rehearsal_lines.proofs.read_line.Goals as goal

pub returns-then-is_passed : goal.returns-then-is_passed
unfolding line_of room_after
returns-then-is_passed c = rw (← c.is_passed.ensures, c.if-is_passed.true) (refl, refl)

pub returns-in-Some : goal.returns-in-Some
unfolding line_of room_after
returns-in-Some c =
    let found = c.in-Some.ensures.cases in
    let not-passed : is_passed c.args.line.now ≡ false = sym c.is_passed.ensures ∙ c.if-is_passed.false in
    let channel : is_channel c.args.line.now ≡ true = sym (texts-compared (take 8 c.args.line.now) channel_word) ∙ found.0 in
    rw (not-passed, channel) (rw found.1 at c.read_settings.ensures, refl)

pub returns-in-None : goal.returns-in-None
unfolding line_of room_after
returns-in-None c =
    let not-passed : is_passed c.args.line.now ≡ false = sym c.is_passed.ensures ∙ c.if-is_passed.false in
    let not-channel : is_channel c.args.line.now ≡ false = sym (texts-compared (take 8 c.args.line.now) channel_word) ∙ c.in-None.ensures.cases in
    rw (not-passed, not-channel) c.read_module.ensures
