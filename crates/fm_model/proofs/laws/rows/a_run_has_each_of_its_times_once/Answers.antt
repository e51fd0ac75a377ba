-- A lemma on the definitions.
use Rattle.fm_model.proofs.RowLemmas.{map-valid-run}
use Rattle.fm_model.proofs.laws.rows.a_run_has_each_of_its_times_once.Goals as goal

pub returns : goal.returns
returns c = map-valid-run
