-- An operation is published, or nothing is.
use Rattle.std.proofs.Common.{[], ◌∷◌, ◌++◌, Ok, ap, sym, ◌∙◌}
use Rattle.fm_model.specs.declared.op.Op.{Op}
use Rattle.pub_core.proofs.MachineSteps.{machine-full, machine-published}
use Rattle.pub_core.proofs.machine.Machine.publish.Goals as goal

pub returns-in_ok-push-in-Ok : goal.returns-in_ok-push-in-Ok
returns-in_ok-push-in-Ok c = λ world is.
    machine-published c.args.self.now.edition.proto c.args.self.now world c.replace.new.dest c.push.new.self
    c.args.op.now is (c.in-Ok.ensures ∙ ap Ok (sym c.replace.ensures.after))
    (c.in_ok-push-in-Ok.ensures.ok ∙ ap (λ (op : Op). c.args.self.now.log ++ op ∷ []) c.in_ok-copy-in-Ok.ensures)

pub returns-in-Err-Fault : goal.returns-in-Err-Fault
returns-in-Err-Fault c = λ world is.
    machine-full c.args.self.now.edition.proto c.args.self.now world c.in-Err-Fault.field-0-0 c.args.op.now is
    (rw c.in-Err-Fault.field-0-is at c.in-Err-Fault.ensures)
