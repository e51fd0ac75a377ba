-- The reply to a request that a collection is looked at for, and to one that is refused,
-- with the data left in its dataset.
use Rattle.std.specs.Prelude.{ℕ, Bool}
use Rattle.fm_edition.specs.Held.{Held}
use Rattle.dap_reply.specs.declared.body.Answer.{Answer}
use Rattle.dap_reply.specs.declared.fault.DapFault.{DapFault}
use Rattle.dap_reply.specs.declared.wanted.Dap.{Dap}
use Rattle.dap_reply.specs.Body.{body_of}
use Rattle.dap_plan.specs.Parts.{Parts}
use Rattle.dap_reply.specs.Reply.{answered, refusal_of, reply_parts}

-- what is answered to a request over an edition
unfoldable pub answer_over : Held → Dap → Answer
answer_over held dap = answered (body_of held.proto held.files dap.target)

-- the reply to a request over an edition that `revision` operations left
unfoldable pub planned : Held → ℕ → Dap → Parts
planned held revision dap = reply_parts (answer_over held dap) revision dap.head dap.last

-- the reply that refuses
unfoldable pub refused : DapFault → ℕ → Bool → Bool → Parts
refused fault revision head last = reply_parts (refusal_of fault) revision head last
