use Rattle.rehearsal_lines.proofs.Channel.{field-ends}
use Rattle.rehearsal_lines.proofs.settings.field_length.Goals as goal

pub returns : goal.returns
returns c = rw (c.unwrap_or.ensures, c.first_space.ensures) (field-ends c.args.text.now)
