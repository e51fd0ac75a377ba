-- Nothing happened.
use Rattle.pub_core.proofs.MachineSteps.{machine-new}
use Rattle.pub_core.proofs.machine.Machine.new.Goals as goal

pub returns : goal.returns
returns c =
    machine-new c.args.proto c.args.sessions c.in_ok-edition.edition c.new.result c.in_ok-connections.connections
    c.in_ok-edition.ensures c.new.ensures (c.in_ok-connections.ensures c.args.proto)
