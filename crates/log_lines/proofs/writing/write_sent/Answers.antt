use Rattle.hexadecimal.specs.Hex.{digit_line}
use Rattle.log_lines.proofs.writing.write_sent.Goals as goal

pub returns : goal.returns
unfolding digit_line
returns c = c.write_frame.ensures
