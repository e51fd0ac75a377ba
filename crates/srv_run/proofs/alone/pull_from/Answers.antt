-- A run of `pull`, by what the links of the dialer show.
use Rattle.std.proofs.Common.{refl}
use Rattle.srv_run.proofs.PullLemmas.{pull-by}
use Rattle.srv_run.proofs.alone.pull_from.Goals as goal

pub returns-clause-pulls : goal.returns-clause-pulls
returns-clause-pulls g c = record { pulls = pull-by c.pull.ensures; unread = refl; unused = refl }
