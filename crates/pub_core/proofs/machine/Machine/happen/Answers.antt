-- One event.
use Rattle.std.proofs.Common.{refl, sym, subst}
use Rattle.dap_reply.proofs.MessageLemmas.{on_ok}
use Rattle.pub_core.specs.declared.event.Event.{Event}
use Rattle.pub_core.specs.Happening.{happens}
use Rattle.pub_core.specs.Machine.{IsMachine}
use Rattle.pub_core.proofs.MachineSteps.{own-event}
use Rattle.pub_core.proofs.machine.Machine.happen.Goals as goal

pub returns-in-Publish : goal.returns-in-Publish
unfolding happens
returns-in-Publish c =
    on_ok c.publish.result (λ leads. λ world is.
    subst (λ (e : Event). IsMachine c.args.self.now.edition.proto c.publish.new.self
    (happens c.args.self.now.edition.proto world e)) (sym c.in-Publish.is) (leads world is)) c.publish.ensures

pub returns-in-Look : goal.returns-in-Look
unfolding happens
returns-in-Look c =
    on_ok c.happen_to.result (λ leads. λ world is.
    subst (IsMachine c.args.self.now.edition.proto c.happen_to.new.self)
    (own-event c.args.self.now.edition.proto world c.in-Look.number c.args.event.now c.in-Look.is refl)
    (leads world is)) c.happen_to.ensures

pub returns-in-Learn : goal.returns-in-Learn
unfolding happens
returns-in-Learn c =
    on_ok c.happen_to-in-Learn.result (λ leads. λ world is.
    subst (IsMachine c.args.self.now.edition.proto c.happen_to-in-Learn.new.self)
    (own-event c.args.self.now.edition.proto world c.in-Learn.number c.args.event.now c.in-Learn.is refl)
    (leads world is)) c.happen_to-in-Learn.ensures

pub returns-in-Bytes : goal.returns-in-Bytes
unfolding happens
returns-in-Bytes c =
    on_ok c.happen_to-in-Bytes.result (λ leads. λ world is.
    subst (IsMachine c.args.self.now.edition.proto c.happen_to-in-Bytes.new.self)
    (own-event c.args.self.now.edition.proto world c.in-Bytes.number c.args.event.now c.in-Bytes.is refl)
    (leads world is)) c.happen_to-in-Bytes.ensures

pub returns-in-Sent : goal.returns-in-Sent
unfolding happens
returns-in-Sent c =
    on_ok c.happen_to-in-Sent.result (λ leads. λ world is.
    subst (IsMachine c.args.self.now.edition.proto c.happen_to-in-Sent.new.self)
    (own-event c.args.self.now.edition.proto world c.in-Sent.number c.args.event.now c.in-Sent.is refl)
    (leads world is)) c.happen_to-in-Sent.ensures

pub returns-in-End : goal.returns-in-End
unfolding happens
returns-in-End c =
    on_ok c.happen_to-in-End.result (λ leads. λ world is.
    subst (IsMachine c.args.self.now.edition.proto c.happen_to-in-End.new.self)
    (own-event c.args.self.now.edition.proto world c.in-End.number c.args.event.now c.in-End.is refl)
    (leads world is)) c.happen_to-in-End.ensures

pub returns-in-Fault : goal.returns-in-Fault
unfolding happens
returns-in-Fault c =
    on_ok c.happen_to-in-Fault.result (λ leads. λ world is.
    subst (IsMachine c.args.self.now.edition.proto c.happen_to-in-Fault.new.self)
    (own-event c.args.self.now.edition.proto world c.in-Fault.number c.args.event.now c.in-Fault.is refl)
    (leads world is)) c.happen_to-in-Fault.ensures
