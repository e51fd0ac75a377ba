-- A projection is accepted exactly where no clause has a fault.
use Rattle.std.proofs.Common.{[]}
use Rattle.dap_model.proofs.ProjectionFaultLemmas.{none_after, no_first_fault}
use Rattle.dap_model.proofs.ProjectionAcceptLemmas.{faultless_if_ok, ok_if_faultless}
use Rattle.dap_model.proofs.laws.projections.projection_accepts.Goals as goal

pub returns : goal.returns
returns c =
    let decls = c.args.decls.now in
    let clauses = c.args.clauses.now in (
      λ ok. none_after decls [] clauses (faultless_if_ok decls clauses ok),
      λ none. ok_if_faultless decls clauses (no_first_fault decls clauses none),
    )
