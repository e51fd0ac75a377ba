-- Slabs without a fault lie within their dimensions, and whole dimensions do.
use Rattle.std.proofs.Common.{List, ap, get_or, subst, sym}
use Rattle.dap_model.specs.declared.projection.Projected.{Projected}
use Rattle.dap_model.specs.declared.projection.Sent.{Sent}
use Rattle.dap_model.proofs.ListLemmas.{Has, Has-at}
use Rattle.dap_model.proofs.ProjectionAcceptLemmas.{Accepted-projection_of}
use Rattle.dap_model.proofs.ProjectionSentLemmas.{PartSent-all_sent, FitsPart-sent}
use Rattle.dap_model.proofs.laws.projections.projection_fits.Goals as goal

pub returns : goal.returns
returns c = λ sends k d within.
    let decls = c.args.decls.now in
    let clauses = c.args.clauses.now in
    let list = c.args.projected.now.sent in
    let accepted = Accepted-projection_of decls clauses c.args.projected.now sends in
    let same = ap (λ (p : Projected). p.sent) accepted.all in
    let has = subst (λ (l : List Sent). Has l (get_or list k d)) (sym same) (Has-at list k d within) in
    FitsPart-sent decls clauses (get_or list k d) c.requires.apart c.requires.gridded accepted.faultless
    (PartSent-all_sent decls clauses (get_or list k d) has)
