-- The head alone was asked for.
use Rattle.std.proofs.Common.{◌∙◌, ap, length}
use Rattle.srv_load.proofs.asking.head_len.Goals as goal

pub returns : goal.returns
returns c = c.len-count.ensures ∙ ap length c.in_ok-head.ensures
