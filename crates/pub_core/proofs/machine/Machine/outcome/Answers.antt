-- The outcome of the world.
use Rattle.std.proofs.Common.{map, ap, ◌∙◌}
use Rattle.pub_core.specs.declared.connection.Connection.{Connection}
use Rattle.pub_core.proofs.MachineSteps.{machine-outcome}
use Rattle.pub_core.proofs.machine.Machine.outcome.Goals as goal

pub returns : goal.returns
returns c = λ world is.
    machine-outcome c.args.self.edition.proto c.args.self world c.in_ok-told.told.outputs c.in_ok-told.told.seen is
    (c.in_ok-told.ensures.outputs ∙ ap (map (λ (x : Connection). x.output)) c.as_slice.ensures)
    (c.in_ok-told.ensures.seen ∙ ap (map (λ (x : Connection). x.seen)) c.as_slice.ensures)
