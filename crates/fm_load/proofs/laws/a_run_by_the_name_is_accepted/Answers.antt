-- Lemmas on the definitions.
use Rattle.fm_load.proofs.AcceptLemmas.{run-accepted}
use Rattle.fm_load.proofs.laws.a_run_by_the_name_is_accepted.Goals as goal

pub returns : goal.returns
returns c = run-accepted
