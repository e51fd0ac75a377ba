-- Lemmas on the definitions.
use Rattle.fm_model.proofs.TimeLemmas.{times_count, times_each}
use Rattle.fm_model.proofs.laws.load.a_fit_file_has_the_times_of_its_axis.Goals as goal

pub returns-clause-count : goal.returns-clause-count
returns-clause-count c = times_count

pub returns-clause-each : goal.returns-clause-each
returns-clause-each c = times_each
