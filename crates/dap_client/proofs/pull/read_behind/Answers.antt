-- A link that fails has no outcome, and reading a message leaves the link's count.
use Rattle.std.proofs.Common.{ℕ, subst, sym}
use Rattle.std.proofs.lemmas.Result.{err_from_is_err_and}
use Rattle.dap_client.specs.Pull.{HasPullCause}
use Rattle.dap_client.proofs.OutcomeLemmas.{unpulled}
use Rattle.dap_client.proofs.pull.read_behind.Goals as goal

pub returns-in_err-body-clause-said : goal.returns-in_err-body-clause-said
returns-in_err-body-clause-said g c =
    let p = err_from_is_err_and c.from_residual.result c.from_residual.ensures.1 in
    rw (p.1, p.2) (unpulled c.in_err-body.field-0.0 _ c.in_err-body.ensures.link)

pub returns-clause-cause : goal.returns-clause-cause
returns-clause-cause g c =
    let before = (g.L.Link.shown c.args.link.now).faults in
    subst (λ (n : ℕ). HasPullCause before n c.message_in.result) (sym c.in_ok-body.ensures.cause)
    (c.message_in.ensures.cause before)
