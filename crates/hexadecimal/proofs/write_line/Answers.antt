use native.Mathlib.Omega.{arith}
use Rattle.hexadecimal.proofs.Lines.{line-short, line-count, line-put}
use Rattle.hexadecimal.proofs.write_line.Goals.{then-room-lt1-via-then-room-lt1, then-room-lt1-via-else-room-lt1+then-room-octets}
use Rattle.hexadecimal.proofs.write_line.Goals as goal

pub returns-then-output-head : goal.returns-then-output-head
returns-then-output-head c =
    let a = c.args in
    line-short a.head.now a.octets.now a.output.now (omega arith)

pub returns-then-room-lt1 : goal.returns-then-room-lt1
returns-then-room-lt1 c =
    let a = c.args in
    elim c.then-room-lt1.branch [
      | then-room-lt1-via-then-room-lt1 w ↦ line-short a.head.now a.octets.now a.output.now (omega (arith, w.if-room-lt1.true))
      | then-room-lt1-via-else-room-lt1+then-room-octets w ↦ line-short a.head.now a.octets.now a.output.now
          (omega (arith, w.if-room-lt1.false, w.if-room-octets.true))
    ]

pub returns : goal.returns
returns c =
    let a = c.args in (
      line-count a.head.now a.octets.now a.output.now (omega arith),
      rw (c.encode.ensures.1, c.copy.ensures.1)
          (line-put a.head.now a.octets.now a.output.now (omega arith)),
    )
