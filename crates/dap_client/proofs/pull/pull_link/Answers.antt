-- All of the request was put and the outcome is that of the reply, or a front was put and there is none.
use Rattle.std.proofs.Common.{◌≡◌, ◌∙◌, ℕ, List, ap}
use Rattle.dev_traits.specs.Link.{after_put}
use Rattle.dap_client.specs.Reply.{request_text}
use Rattle.dap_client.proofs.OutcomeLemmas.{pulled_as}
use Rattle.dap_client.proofs.PutLemmas.{pulls-put, puts-none, puts-whole}
use Rattle.dap_client.proofs.pull.pull_link.Goals as goal

pub returns-in_err-request-clause-put : goal.returns-in_err-request-clause-put
returns-in_err-request-clause-put g c = puts-none _ _

pub returns-in-Ok-clause-pulls : goal.returns-in-Ok-clause-pulls
returns-in-Ok-clause-pulls g c =
    let before = (g.L.Link.shown c.args.link.now).held in
    let mid = (g.L.Link.shown c.put_all.new.link).held in
    let put : mid ≡ after_put (request_text c.args.address.now c.args.target.now) before =
    c.in-Ok.ensures.ok ∙ ap (λ (l : List ℕ). after_put l before) (c.as_slice.ensures ∙ c.in_ok-request.ensures) in
    pulled_as c.read_reply.result _ _ (λ outcome. pulls-put _ before mid _ outcome put) c.read_reply.ensures.pulls

pub returns-in-Ok-clause-put : goal.returns-in-Ok-clause-put
returns-in-Ok-clause-put g c =
    let before = (g.L.Link.shown c.args.link.now).held in
    let mid = (g.L.Link.shown c.put_all.new.link).held in
    let put : mid ≡ after_put (request_text c.args.address.now c.args.target.now) before =
    c.in-Ok.ensures.ok ∙ ap (λ (l : List ℕ). after_put l before) (c.as_slice.ensures ∙ c.in_ok-request.ensures) in
    puts-whole _ before mid _ put c.read_reply.ensures.put
