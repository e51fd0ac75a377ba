-- The length decides.
use Rattle.std.proofs.Common.{◌+◌, ap, length, sym, ◌∙◌, Ok}
use Rattle.dap_xdr.specs.Content.{data_of}
use Rattle.fm_twod.specs.Laid.{content_of}
use Rattle.fm_twod.specs.Parts.{Body}
use Rattle.fm_twod.proofs.BodyLemmas.{body-len, body-over, body-under}
use Rattle.fm_twod.proofs.asked.within_limit.Goals as goal

pub returns-then-len : goal.returns-then-len
returns-then-len c =
    body-over _ (c.data_len-behind.result + c.len-begin.result)
    (body-len c.args.front c.args.grid c.args.sent c.data_len-behind.result c.len-begin.result
    (c.data_len-behind.ensures.exact ∙ ap (λ sent. length (data_of (content_of c.args.grid) sent)) c.as_slice.ensures)
    c.len-begin.ensures) c.if-len.true

pub new-twod-requires-clause-len : goal.new-twod-requires-clause-len
new-twod-requires-clause-len c =
    body-len c.args.front c.args.grid c.args.sent c.data_len-behind.result c.len-begin.result
    (c.data_len-behind.ensures.exact ∙ ap (λ sent. length (data_of (content_of c.args.grid) sent)) c.as_slice.ensures)
    c.len-begin.ensures

pub returns : goal.returns
returns c =
    body-under _ (c.data_len-behind.result + c.len-begin.result)
    (body-len c.args.front c.args.grid c.args.sent c.data_len-behind.result c.len-begin.result
    (c.data_len-behind.ensures.exact ∙ ap (λ sent. length (data_of (content_of c.args.grid) sent)) c.as_slice.ensures)
    c.len-begin.ensures) c.if-len.false
    ∙ ap (λ (body : Body). Ok body) (sym c.new-twod.ensures)
