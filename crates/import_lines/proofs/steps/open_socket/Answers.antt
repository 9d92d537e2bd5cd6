use Rattle.import_lines.specs.Lines.{opened_step}
use Rattle.import_lines.proofs.steps.open_socket.Goals as goal

pub returns : goal.returns
unfolding opened_step
returns c = rw (c.tell_opened.ensures, c.outcome_of.ensures, c.with_links.ensures, c.open-called.ensures)
