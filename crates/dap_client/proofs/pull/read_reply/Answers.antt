-- A link that fails has no outcome. Behind a whole head the outcome is that of the body.
use Rattle.std.proofs.Common.{ℕ, List, Ok, Err, subst, IfSome}
use Rattle.std.proofs.lemmas.Result.{err_from_is_err_and}
use Rattle.dev_traits.specs.Link.{Wire}
use Rattle.dap_client.specs.declared.head.HeadEnd.{HeadEnd}
use Rattle.dap_client.specs.Pull.{IsHeadOf}
use Rattle.dap_client.specs.Length.{IsLenAfter}
use Rattle.dap_client.proofs.OutcomeLemmas.{pulled_as, pulls-behind, pulls-head, says-early, says-long, says-refused, unpulled}
use Rattle.dap_client.proofs.pull.read_reply.Goals as goal

pub returns-in_err-head-clause-pulls : goal.returns-in_err-head-clause-pulls
returns-in_err-head-clause-pulls g c =
    let p = err_from_is_err_and c.from_residual.result c.from_residual.ensures.1 in
    rw (p.1, p.2) (unpulled c.in_err-head.field-0.0 _ c.in_err-head.ensures.link)

pub returns-in-Ok-clause-pulls : goal.returns-in-Ok-clause-pulls
returns-in-Ok-clause-pulls g c =
    let held = (g.L.Link.shown c.args.link.now).held in
    let bytes = c.in_ok-head.head.bytes in
    pulled_as c.read_behind.result _ _
    (pulls-behind held _ _ bytes c.len-count.result c.in-Ok.len c.len-count.ensures c.in_ok-head.ensures.taken
    (subst (λ (end : HeadEnd). IfSome held (λ (wire : Wire). IsHeadOf bytes end wire.left)) c.in-Whole.is
    c.in_ok-head.ensures.head)
    (subst (λ (l : List ℕ). IsLenAfter l (Ok c.in-Ok.len)) c.as_slice.ensures c.in-Ok.ensures.len))
    c.read_behind.ensures.said

pub returns-in-Early-clause-pulls : goal.returns-in-Early-clause-pulls
returns-in-Early-clause-pulls g c =
    let held = (g.L.Link.shown c.args.link.now).held in
    let bytes = c.in_ok-head.head.bytes in
    pulls-head held _ bytes _ c.in_ok-head.ensures.taken
    (says-early held bytes c.len-count.result c.len-count.ensures
    (subst (λ (end : HeadEnd). IfSome held (λ (wire : Wire). IsHeadOf bytes end wire.left)) c.in-Early.is
    c.in_ok-head.ensures.head))

pub returns-in-Long-clause-pulls : goal.returns-in-Long-clause-pulls
returns-in-Long-clause-pulls g c =
    let held = (g.L.Link.shown c.args.link.now).held in
    let bytes = c.in_ok-head.head.bytes in
    pulls-head held _ bytes _ c.in_ok-head.ensures.taken
    (says-long held _ bytes c.in_ok-head.ensures.taken
    (subst (λ (end : HeadEnd). IfSome held (λ (wire : Wire). IsHeadOf bytes end wire.left)) c.in-Long.is
    c.in_ok-head.ensures.head))

pub returns-clause-pulls : goal.returns-clause-pulls
returns-clause-pulls g c =
    let held = (g.L.Link.shown c.args.link.now).held in
    let bytes = c.in_ok-head.head.bytes in
    pulls-head held _ bytes _ c.in_ok-head.ensures.taken
    (says-refused held _ bytes c.in-Err.fault c.in_ok-head.ensures.taken
    (subst (λ (end : HeadEnd). IfSome held (λ (wire : Wire). IsHeadOf bytes end wire.left)) c.in-Whole.is
    c.in_ok-head.ensures.head)
    (subst (λ (l : List ℕ). IsLenAfter l (Err c.in-Err.fault)) c.as_slice.ensures c.in-Err.ensures.len))
