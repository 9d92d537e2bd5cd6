use lib.ListN.{drop}
use mathlib.Core.Path.{◌≡◌}
use Rattle.held_line.specs.Lines.{held_piece}
use Rattle.held_line.proofs.hold_each.Given as goal

abbrev pub invariant-loop-character : goal.invariant-loop-character
invariant-loop-character l = held_piece l.line (drop l.character-index l.piece) ≡ held_piece l.initial.line l.piece
