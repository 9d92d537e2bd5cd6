use Rattle.octets.proofs.Writing.{output-wrong}
use borrow.Author.Tests.{le-leb, lt-leb}
use Rattle.proxy_writing.proofs.write_piece.Goals.{
  then-not-is_cut-via-then-not-is_cut,
  then-not-is_cut-via-else-not-is_cut+then-kind-gt3,
  then-not-is_cut-via-else-not-is_cut+else-kind-gt3+then-last_piece-index,
}
use Rattle.proxy_writing.proofs.write_piece.Goals as goal

pub returns-then-not-is_cut : goal.returns-then-not-is_cut
returns-then-not-is_cut c = elim c.then-not-is_cut.branch [
  | then-not-is_cut-via-then-not-is_cut w ↦ output-wrong _ _ _ (simp (← c.is_cut.ensures, w.if-not-is_cut.true))
  | then-not-is_cut-via-else-not-is_cut+then-kind-gt3 w ↦ output-wrong _ _ _
      (simp (← c.is_cut.ensures, w.if-not-is_cut.false, lt-leb _ _ w.if-kind-gt3.true))
  | then-not-is_cut-via-else-not-is_cut+else-kind-gt3+then-last_piece-index w ↦ output-wrong _ _ _
      (simp (← c.is_cut.ensures, w.if-not-is_cut.false, le-leb _ _ w.if-kind-gt3.false, ← w.last_piece.ensures, lt-leb _ _ w.if-last_piece-index.true))
]
