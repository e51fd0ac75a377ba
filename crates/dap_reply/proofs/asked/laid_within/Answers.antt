-- The length decides.
use Rattle.std.proofs.Common.{◌+◌, List, length, ap, subst, ◌∙◌, refl}
use Rattle.dap_model.specs.declared.projection.Sent.{Sent}
use Rattle.dap_xdr.specs.Content.{data_of}
use Rattle.dap_xdr.specs.Datasets.{content_of}
use Rattle.dap_plan.specs.Laid.{AreLaid}
use Rattle.dap_reply.proofs.LimitLemmas.{data-bytes, data-over, data-under}
use Rattle.dap_reply.proofs.asked.laid_within.Goals as goal

pub returns-then-len-clause-within : goal.returns-then-len-clause-within
returns-then-len-clause-within c =
    data-over c.args.front.now c.args.source.now c.args.sent.now c.in_ok-layout.layout.len c.len-begin.result
    (c.in_ok-layout.layout.len + c.len-begin.result)
    (c.in_ok-layout.ensures.exact
    ∙ ap (λ sent. length (data_of (content_of c.args.source.now) sent)) c.as_slice.ensures)
    c.len-begin.ensures refl c.if-len.true

pub returns-clause-within : goal.returns-clause-within
returns-clause-within c =
    data-under c.args.front.now c.args.source.now c.args.sent.now c.in_ok-layout.layout.len c.len-begin.result
    (c.in_ok-layout.layout.len + c.len-begin.result)
    (c.in_ok-layout.ensures.exact
    ∙ ap (λ sent. length (data_of (content_of c.args.source.now) sent)) c.as_slice.ensures)
    c.len-begin.ensures refl c.if-len.false

pub returns-clause-laid : goal.returns-clause-laid
returns-clause-laid c =
    subst (λ (sent : List Sent). AreLaid c.args.source.now sent c.in_ok-layout.layout.parts) c.as_slice.ensures
    c.in_ok-layout.ensures.laid

pub returns-clause-len : goal.returns-clause-len
returns-clause-len c =
    data-bytes c.args.front.now c.args.source.now c.args.sent.now c.in_ok-layout.layout.len c.len-begin.result
    (c.in_ok-layout.layout.len + c.len-begin.result)
    (c.in_ok-layout.ensures.exact
    ∙ ap (λ sent. length (data_of (content_of c.args.source.now) sent)) c.as_slice.ensures)
    c.len-begin.ensures refl
