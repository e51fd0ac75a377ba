-- What the connections so far have seen.
use Rattle.std.proofs.Common.{◌≡◌, map, take}
use Rattle.pub_core.specs.declared.connection.Connection.{Connection}
use Rattle.pub_core.proofs.machine.seen_by.Given as goal

abbrev pub invariant-loop-connection : goal.invariant-loop-connection
invariant-loop-connection l = l.seen ≡ map (λ (c : Connection). c.seen) (take l.connection-index l.connections)
