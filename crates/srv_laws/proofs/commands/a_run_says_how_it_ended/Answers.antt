-- The sink of a run.
use Rattle.srv_laws.proofs.SaidLemmas.{quiet, said}
use Rattle.srv_laws.proofs.commands.a_run_says_how_it_ended.Goals as goal

pub returns-clause-said : goal.returns-clause-said
returns-clause-said g c = said

pub returns-clause-done : goal.returns-clause-done
returns-clause-done g c = quiet
