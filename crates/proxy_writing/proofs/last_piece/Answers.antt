use mathlib.Core.Path.{sym}
use Rattle.proxy_writing.proofs.Laws.{last-divided}
use Rattle.proxy_writing.proofs.last_piece.Goals as goal

pub returns : goal.returns
returns c = sym (last-divided _ _ c.requires)
