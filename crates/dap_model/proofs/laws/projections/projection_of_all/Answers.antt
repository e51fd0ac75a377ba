-- Without a clause, declarations are sent as they stand and each part whole.
use Rattle.std.proofs.Common.{[], List, ◌∙◌, ap, subst, sym}
use Rattle.dap_model.specs.declared.projection.Projected.{Projected}
use Rattle.dap_model.specs.declared.projection.Sent.{Sent}
use Rattle.dap_model.proofs.ListLemmas.{Has, Has-from_contains, contains_from_Has}
use Rattle.dap_model.proofs.ProjectionAcceptLemmas.{Accepted-projection_of}
use Rattle.dap_model.proofs.ProjectionSentLemmas.{PartSent-all_sent, Has-all_sent, whole_sent}
use Rattle.dap_model.proofs.ProjectionWholeLemmas.{all_sent-whole}
use Rattle.dap_model.proofs.laws.projections.projection_of_all.Goals as goal

pub returns : goal.returns
returns c =
    let decls = c.args.decls.now in
    let sent = c.args.sent.now in
    let list = c.args.projected.now.sent in
    record {
      decls = λ sends.
          let all = (Accepted-projection_of decls [] c.args.projected.now sends).all in
          sym (ap (λ (p : Projected). p.decls) all) ∙ all_sent-whole decls;
      sent = λ sends.
          let same =
          ap (λ (p : Projected). p.sent) (Accepted-projection_of decls [] c.args.projected.now sends).all in (
            λ found. (whole_sent decls sent).0
                (PartSent-all_sent decls [] sent
                (subst (λ (l : List Sent). Has l sent) (sym same) (Has-from_contains list sent found))),
            λ whole. contains_from_Has list sent
                (subst (λ (l : List Sent). Has l sent) same
                (Has-all_sent decls [] sent ((whole_sent decls sent).1 whole))),
          );
    }
