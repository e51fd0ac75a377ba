-- With clauses, exactly the parts are sent that some clause names, with its slabs.
use Rattle.std.proofs.Common.{List, ap, subst, sym}
use Rattle.dap_model.specs.declared.projection.Projected.{Projected}
use Rattle.dap_model.specs.declared.projection.Sent.{Sent}
use Rattle.dap_model.proofs.ListLemmas.{Has, Has-from_contains, contains_from_Has}
use Rattle.dap_model.proofs.ProjectionAcceptLemmas.{Accepted-projection_of}
use Rattle.dap_model.proofs.ProjectionSentLemmas.{PartSent-all_sent, Has-all_sent, asked_sent}
use Rattle.dap_model.proofs.laws.projections.projection_sends.Goals as goal

pub returns : goal.returns
returns c = λ sends.
    let decls = c.args.decls.now in
    let clauses = c.args.clauses.now in
    let sent = c.args.sent.now in
    let accepted = Accepted-projection_of decls clauses c.args.projected.now sends in
    let same = ap (λ (p : Projected). p.sent) accepted.all in
    let asked = asked_sent decls clauses sent c.requires.some c.requires.apart accepted.faultless in (
      λ found. asked.0 (PartSent-all_sent decls clauses sent
          (subst (λ (l : List Sent). Has l sent) (sym same) (Has-from_contains c.args.projected.now.sent sent found))),
      λ whole. contains_from_Has c.args.projected.now.sent sent
          (subst (λ (l : List Sent). Has l sent) same (Has-all_sent decls clauses sent (asked.1 whole))),
    )
