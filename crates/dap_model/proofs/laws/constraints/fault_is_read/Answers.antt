-- A fault is read exactly where the text has it, so a text has one at most.
use Rattle.dap_model.proofs.ConstraintFaultLemmas.{constraint_of-fault, HasFault-constraint_of}
use Rattle.dap_model.proofs.laws.constraints.fault_is_read.Goals as goal

pub returns : goal.returns
returns c =
    let text = c.args.text.now in
    record {
      read = (HasFault-constraint_of text c.args.fault, constraint_of-fault text c.args.fault);
      one = λ s t.
          let first = constraint_of-fault text c.args.fault s in
          let second = constraint_of-fault text c.args.other t in
          cc;
    }
