-- Clauses are read exactly where the text asks for them, so a text asks for one list at most.
use Rattle.dap_model.proofs.ConstraintFaultLemmas.{constraint_of-constrains, constrains_from_constraint_of}
use Rattle.dap_model.proofs.laws.constraints.constraint_is_read.Goals as goal

pub returns : goal.returns
returns c =
    let text = c.args.text.now in
    record {
      read = (constrains_from_constraint_of text c.args.clauses.now, constraint_of-constrains text c.args.clauses.now);
      one = λ s t.
          let first = constraint_of-constrains text c.args.clauses.now s in
          let second = constraint_of-constrains text c.args.others.now t in
          cc;
    }
