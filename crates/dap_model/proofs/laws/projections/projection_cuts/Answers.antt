-- The arrays of the declarations that are sent are the parts that are sent.
use Rattle.std.proofs.Common.{subst}
use Rattle.std.specs.List.{AllZip, flat_map}
use Rattle.dap_model.specs.declared.projection.Projected.{Projected}
use Rattle.dap_model.specs.Picking.{parts_of}
use Rattle.dap_model.specs.ProjectionFacts.{IsCut}
use Rattle.dap_model.proofs.ProjectionCutLemmas.{cut_sent}
use Rattle.dap_model.proofs.ProjectionAcceptLemmas.{Accepted-projection_of}
use Rattle.dap_model.proofs.laws.projections.projection_cuts.Goals as goal

pub returns : goal.returns
returns c = λ sends.
    let decls = c.args.decls.now in
    let clauses = c.args.clauses.now in
    let all = (Accepted-projection_of decls clauses c.args.projected.now sends).all in
    subst (λ (p : Projected). AllZip (IsCut decls) (flat_map parts_of p.decls) p.sent) all (cut_sent decls clauses)
