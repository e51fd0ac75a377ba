-- Few parts are sent of a dataset whose prototype is that of a file, and each is one of the dataset.
use Rattle.std.proofs.Common.{Err, List, ℕ, ap, subst, sym, ◌∙◌}
use Rattle.fm_base.specs.Answer.{Answers}
use Rattle.dap_model.specs.declared.declaration.Decl.{Decl}
use Rattle.dap_model.specs.declared.projection.Sent.{Sent}
use Rattle.dap_reply.specs.Body.{sent_asked}
use Rattle.dap_reply.proofs.SentLemmas.{all-asked, asked-refused, asked-sent, few-asked}
use Rattle.dap_reply.proofs.asked.dataset_sent.Goals as goal

pub data_body-requires-clause-sent : goal.data_body-requires-clause-sent
data_body-requires-clause-sent c =
    all-asked c.args.source c.args.target.now c.in-Ok.front c.in-Ok.sent c.proto-proto.ensures.prototype
    (ap (λ decls. sent_asked decls c.args.target.now) (sym c.decls.ensures) ∙ c.in-Ok.ensures)

pub data_body-requires-clause-few : goal.data_body-requires-clause-few
data_body-requires-clause-few c =
    few-asked c.args.source c.args.target.now c.in-Ok.front c.in-Ok.sent c.proto-proto.ensures.prototype
    (ap (λ decls. sent_asked decls c.args.target.now) (sym c.decls.ensures) ∙ c.in-Ok.ensures)

pub returns-in-Ok : goal.returns-in-Ok
returns-in-Ok c =
    subst (λ outcome. Answers outcome c.data_body.result)
    (sym (asked-sent c.args.source c.args.target.now c.in-Ok.front c.in-Ok.sent
    (ap (λ decls. sent_asked decls c.args.target.now) (sym c.decls.ensures) ∙ c.in-Ok.ensures)))
    c.data_body.ensures

pub returns-in-Err : goal.returns-in-Err
returns-in-Err c =
    asked-refused c.args.source c.args.target.now c.in-Err.fail
    (subst (λ (decls : List Decl). Answers {A = List ℕ × List Sent} (sent_asked decls c.args.target.now)
    (Err c.in-Err.fail)) c.decls.ensures c.in-Err.ensures)
