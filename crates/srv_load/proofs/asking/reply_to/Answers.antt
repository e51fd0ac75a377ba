-- The request is that for the target.
use Rattle.srv_load.proofs.BodyLemmas.{reply_for}
use Rattle.srv_load.proofs.asking.reply_to.Goals as goal

pub returns : goal.returns
returns c = reply_for _ _ c.in_ok-dap.ensures c.in_ok-reply.ensures.bytes
