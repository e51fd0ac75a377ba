-- Lemmas on the definitions.
use Rattle.fm_model.proofs.RowLemmas.{map-valid-best, Contains-best, IsBest-row}
use Rattle.fm_model.proofs.laws.rows.best_has_each_time_once.Goals as goal

pub returns-clause-times : goal.returns-clause-times
returns-clause-times c = map-valid-best

pub returns-clause-any_file : goal.returns-clause-any_file
returns-clause-any_file c = Contains-best

pub returns-clause-greatest : goal.returns-clause-greatest
returns-clause-greatest c = IsBest-row
