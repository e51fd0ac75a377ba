-- A lemma on the definitions.
use Rattle.fm_model.proofs.RowLemmas.{Rises-rows}
use Rattle.fm_model.proofs.laws.rows.rows_rise.Goals as goal

pub returns : goal.returns
returns c = Rises-rows
