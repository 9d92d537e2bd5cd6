use native.Mathlib.Omega.{arith}
use Rattle.import_capabilities.specs.Turns.SocketsPut.{none}
use Rattle.import_capabilities.proofs.Laws.{sockets-more}
use Prim.Native.Nat.{◌-◌}
use mathlib.Core.Path.{◌≡◌, refl}
use borrow.Author.Rules.{rules}
use Rattle.import_capabilities.proofs.put_sockets.Goals as goal

pub loop-socket-init : goal.loop-socket-init
loop-socket-init g c = (refl, none)

pub loop-socket-preserved : goal.loop-socket-preserved
loop-socket-preserved g c =
    let l = c.loop-socket in
    (search rules, sockets-more l.socket (omega arith) l.invariant.1 c.put_socket-streams.ensures)

pub returns : goal.returns
returns g c =
    let l = c.loop-socket in
    let e : l.socket - 1 ≡ 8 = omega arith in
    rw e at l.invariant.1
