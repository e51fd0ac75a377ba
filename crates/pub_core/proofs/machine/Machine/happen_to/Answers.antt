-- An event of a session.
use Rattle.std.proofs.Common.{ap, length, ◌∙◌}
use Rattle.dap_reply.proofs.MessageLemmas.{on_ok}
use Rattle.pub_core.proofs.MachineSteps.{machine-happens}
use Rattle.pub_core.proofs.machine.Machine.happen_to.Goals as goal

pub returns : goal.returns
returns c =
    on_ok c.happen_in.result (λ leads. λ world is.
    machine-happens c.args.self.now.edition.proto c.args.self.now world c.args.number c.args.event.now
    c.happen_in.new.connections is
    (leads world.log world.sessions is.edition_is (c.len-published.ensures ∙ ap length is.log_is) is.shown))
    c.happen_in.ensures
