-- The fault of a projection is the first of the first clause that has one.
use Rattle.dap_model.proofs.ProjectionFaultLemmas.{IsFirstFault-first_fault, first_fault-is}
use Rattle.dap_model.proofs.ProjectionAcceptLemmas.{first_fault-refused, refused-first_fault}
use Rattle.dap_model.proofs.laws.projections.projection_refuses.Goals as goal

pub returns : goal.returns
returns c =
    let decls = c.args.decls.now in
    let clauses = c.args.clauses.now in
    let fault = c.args.fault.now in (
      λ e. IsFirstFault-first_fault decls clauses fault (first_fault-refused decls clauses fault e),
      λ s. refused-first_fault decls clauses fault (first_fault-is decls clauses fault s),
    )
