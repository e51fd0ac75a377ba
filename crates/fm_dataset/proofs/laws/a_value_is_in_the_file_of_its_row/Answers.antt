-- Lemmas on the definitions.
use Rattle.fm_dataset.proofs.LawLemmas.{latest_run, value_along}
use Rattle.fm_dataset.proofs.laws.a_value_is_in_the_file_of_its_row.Goals as goal

pub returns-clause-any : goal.returns-clause-any
returns-clause-any c = value_along

pub returns-clause-best : goal.returns-clause-best
returns-clause-best c = latest_run
