-- Where a reply leads a served link.
use Rattle.std.specs.Prelude.{ℕ, Option, Some, None}
use Rattle.web_session.specs.declared.action.End.{End}
use Rattle.dap_reply.specs.declared.served.Stop.TheVariants.{Ended}
use Rattle.dap_reply.specs.Collections.{Collections}
use Rattle.srv_action.specs.declared.doing.Doing.TheVariants.{Reading}
use Rattle.srv_conn.specs.ServesMany.{Point, ServesMany}
use Rattle.srv_conn.specs.SoFar.{SoFar}

-- requests are read again, or the link is served, since its session has ended
abbrev pub Follows : Collections → Point → ℕ → Point → Option End → Type 0
Follows them start most now None = SoFar them start now most Reading
Follows them start most now (Some end) = ServesMany them start now most (Ended end)
