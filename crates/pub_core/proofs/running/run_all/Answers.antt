-- The events are run one by one.
use Rattle.std.proofs.Common.{◌<◌, List, length, get_or, sym, ap, subst, ◌∙◌, arith}
use Rattle.fm_model.specs.declared.proto.Proto.{Proto}
use Rattle.pub_core.specs.declared.event.Event.{Event}
use Rattle.pub_core.specs.Machine.{IsMachine}
use Rattle.pub_core.specs.Outcome.{EventFits}
use Rattle.pub_core.specs.World.{start}
use Rattle.pub_core.proofs.MachineSteps.{machine-ends, machine-more, machine-proto}
use Rattle.pub_core.proofs.OneSession.{run-none}
use Rattle.pub_core.proofs.running.run_all.Goals as goal

pub happen-requires : goal.happen-requires
happen-requires c =
    let below : c.loop-event.event-index < length c.args.events.now =
    omega (arith, c.loop-event-test.true, ap length c.as_slice-event-items.ensures) in
    subst (λ (p : Proto). EventFits p c.event-item.result) (sym (machine-proto c.loop-event.invariant))
    (subst (EventFits c.args.proto)
    (sym (c.event-item.is ∙ ap (λ (l : List Event). get_or l c.loop-event.event-index c.event-item.result)
    c.as_slice-event-items.ensures))
    (c.requires.fits c.loop-event.event-index c.event-item.result below))

pub loop-event-init : goal.loop-event-init
loop-event-init c =
    subst (IsMachine c.args.proto c.in_ok-machine.machine) (sym (run-none c.args.proto (start c.args.sessions)))
    c.in_ok-machine.ensures

pub loop-event-preserved : goal.loop-event-preserved
loop-event-preserved c =
    machine-more c.args.proto c.loop-event.machine c.happen.new.self (start c.args.sessions)
    c.as_slice-event-items.result.now c.loop-event.event-index c.event-item.result c.loop-event.invariant
    c.event-item.is c.loop-event-test.true c.in_default.ensures

pub returns : goal.returns
returns c =
    machine-ends c.args.proto c.loop-event.machine (start c.args.sessions) c.as_slice-event-items.result.now
    c.args.events.now c.loop-event.event-index c.outcome.result c.loop-event.invariant c.as_slice-event-items.ensures
    c.loop-event-test.false c.outcome.ensures
