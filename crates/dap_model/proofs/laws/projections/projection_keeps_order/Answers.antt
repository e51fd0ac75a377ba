-- Declarations and parts are sent in the dataset's order.
use Rattle.std.proofs.Common.{List, ◌∙◌, ap, map, subst, sym}
use Rattle.dap_model.specs.declared.projection.Projected.{Projected}
use Rattle.dap_model.specs.declared.projection.Sent.{Sent}
use Rattle.dap_model.specs.Picking.{name_of}
use Rattle.dap_model.specs.ProjectionFacts.{StandsBefore}
use Rattle.dap_model.proofs.OrderLemmas.{Ordered, AllPairs-from_ordered}
use Rattle.dap_model.proofs.ProjectionAcceptLemmas.{Accepted-projection_of}
use Rattle.dap_model.proofs.ProjectionSentLemmas.{AllPairs-all_sent}
use Rattle.dap_model.proofs.ProjectionWholeLemmas.{names_sent}
use Rattle.dap_model.proofs.laws.projections.projection_keeps_order.Goals as goal

pub returns : goal.returns
returns c =
    let decls = c.args.decls.now in
    let clauses = c.args.clauses.now in
    record {
      decls = λ sends.
          let all = (Accepted-projection_of decls clauses c.args.projected.now sends).all in
          ap (λ (p : Projected). map name_of p.decls) (sym all) ∙ names_sent decls clauses;
      sent = λ sends.
          let all = (Accepted-projection_of decls clauses c.args.projected.now sends).all in
          AllPairs-from_ordered StandsBefore c.args.projected.now.sent
          (subst (λ (l : List Sent). Ordered StandsBefore l) (ap (λ (p : Projected). p.sent) all)
          (AllPairs-all_sent decls clauses));
    }
