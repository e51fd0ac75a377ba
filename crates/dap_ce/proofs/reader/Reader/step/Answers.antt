-- The handler of a phase takes the machine's step from its state.
use Rattle.std.proofs.Common.{◌+◌, sym, subst, take, get_or}
use Rattle.std.specs.Result.{IfOk}
use Rattle.dap_model.specs.ConstraintReading.{step}
use Rattle.dap_ce.specs.declared.phase.Phase.{Phase}
use Rattle.dap_ce.specs.Phases.{begun_of, state_in, state_of, LeadsTo}
use Rattle.dap_ce.proofs.reader.Reader.step.Goals as goal

pub returns-in-InName-clause-step : goal.returns-in-InName-clause-step
unfolding step
returns-in-InName-clause-step c =
    let text = c.args.text.now in
    let at = c.args.at in
    subst (λ (phase : Phase). IfOk c.in_name.result
    (LeadsTo (step (state_in (begun_of c.args.self.now) (take at text) phase) (get_or text at 0))
    (state_of c.in_name.new.self (take (at + 1) text))))
    (sym c.in-InName.is)
    c.in_name.ensures.step

pub returns-in-InNumber-clause-step : goal.returns-in-InNumber-clause-step
unfolding step
returns-in-InNumber-clause-step c =
    let text = c.args.text.now in
    let at = c.args.at in
    subst (λ (phase : Phase). IfOk c.in_number.result
    (LeadsTo (step (state_in (begun_of c.args.self.now) (take at text) phase) (get_or text at 0))
    (state_of c.in_number.new.self (take (at + 1) text))))
    (sym c.in-InNumber.is)
    (c.in_number.ensures.step (take (at + 1) text))

pub returns-in-AfterSlab-clause-step : goal.returns-in-AfterSlab-clause-step
unfolding step
returns-in-AfterSlab-clause-step c =
    let text = c.args.text.now in
    let at = c.args.at in
    subst (λ (phase : Phase). IfOk c.after_slab.result
    (LeadsTo (step (state_in (begun_of c.args.self.now) (take at text) phase) (get_or text at 0))
    (state_of c.after_slab.new.self (take (at + 1) text))))
    (sym c.in-AfterSlab.is)
    (c.after_slab.ensures.step (take (at + 1) text))
