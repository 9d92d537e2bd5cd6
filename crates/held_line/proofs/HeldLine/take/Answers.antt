use mathlib.Core.Path.{refl}
use borrow.Author.Tests.{eq-eqb, ne_eqb}
use Rattle.held_line.specs.Lines.{held_character}
use Rattle.held_line.proofs.HeldLine.take.Goals as goal

pub returns-then-character-eq13 : goal.returns-then-character-eq13
unfolding held_character
returns-then-character-eq13 c = rw (c.hold_return.ensures, eq-eqb c.args.character 13 c.if-character-eq13.true) refl

pub returns-else-character-eq13 : goal.returns-else-character-eq13
unfolding held_character
returns-else-character-eq13 c = rw (c.hold.ensures, c.hold_return.ensures, ne_eqb c.args.character 13 c.if-character-eq13.false) refl
