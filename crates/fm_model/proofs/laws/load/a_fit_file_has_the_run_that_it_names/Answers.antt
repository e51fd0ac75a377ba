-- Lemmas on the definitions.
use Rattle.fm_model.proofs.TimeLemmas.{run_of_variable, run_of_name}
use Rattle.fm_model.proofs.laws.load.a_fit_file_has_the_run_that_it_names.Goals as goal

pub returns-clause-variable : goal.returns-clause-variable
returns-clause-variable c = run_of_variable

pub returns-clause-name : goal.returns-clause-name
returns-clause-name c = run_of_name
