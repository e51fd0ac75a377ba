-- What the connections so far were sent.
use Rattle.std.proofs.Common.{◌≡◌, map, take}
use Rattle.pub_core.specs.declared.connection.Connection.{Connection}
use Rattle.pub_core.proofs.machine.outputs_of.Given as goal

abbrev pub invariant-loop-connection : goal.invariant-loop-connection
invariant-loop-connection l = l.outputs ≡ map (λ (c : Connection). c.output) (take l.connection-index l.connections)
