use Prim.Native.Nat.{◌-◌}
use lib.ListN.{length}
use mathlib.Core.Path.{◌≡◌}
use Rattle.import_capabilities.specs.Turns.{SocketsPut}
use Rattle.import_capabilities.proofs.put_sockets.Given as goal

abbrev pub invariant-loop-socket : goal.invariant-loop-socket
invariant-loop-socket g l =
    (length l.output ≡ length l.initial.output)
    × SocketsPut l.log.tray l.initial.streams l.initial.output (l.socket - 1) l.streams l.output
