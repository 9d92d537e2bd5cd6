-- Past the end by one of the two tests, or a read within the message.
use Prim.Native.Nat.{◌+◌}
use borrow.Author.Tests.{le-leb, lt-leb}
use lib.ListN.{length}
use native.Mathlib.Omega.{arith}
use Rattle.message_view.specs.Reading.{field_at}
use Rattle.message_view.proofs.read_field.Goals as goal
use Rattle.message_view.proofs.read_field.Goals.{then-message-place-via-then-message-place, then-message-place-via-else-message-place+then-message-place-2}

pub returns-then-message-place : goal.returns-then-message-place
unfolding field_at
returns-then-message-place c =
    let a = c.args in
    let s = c.size_of-size in
    elim c.then-message-place.branch [
      | then-message-place-via-then-message-place w ↦ simp (← s.ensures, lt-leb (a.place + s.result) (length a.message.now) (omega (arith, w.if-message-place)))
      | then-message-place-via-else-message-place+then-message-place-2 w ↦ simp (← s.ensures, lt-leb (a.place + s.result) (length a.message.now) (omega (arith, w.if-message-place, w.if-message-place-2)))
    ]

pub returns : goal.returns
unfolding field_at
returns c =
    let a = c.args in
    let s = c.size_of-size in
    simp (c.value_at.ensures, ← s.ensures, le-leb (a.place + s.result) (length a.message.now) (omega arith))
