-- Lemmas on the definitions.
use Rattle.fm_model.proofs.TimeLemmas.{some-times, few-times, times_differ, times_are_instants, run_is_instant}
use Rattle.fm_model.proofs.laws.load.a_fit_file_has_sound_times.Goals as goal

pub returns-clause-some : goal.returns-clause-some
returns-clause-some c = some-times

pub returns-clause-few : goal.returns-clause-few
returns-clause-few c = few-times

pub returns-clause-differ : goal.returns-clause-differ
returns-clause-differ c = times_differ

pub returns-clause-instants : goal.returns-clause-instants
returns-clause-instants c = times_are_instants

pub returns-clause-run : goal.returns-clause-run
returns-clause-run c = run_is_instant
