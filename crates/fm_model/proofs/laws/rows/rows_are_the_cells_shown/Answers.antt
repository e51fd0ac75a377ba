-- A lemma on the definitions.
use Rattle.fm_model.proofs.RowLemmas.{Contains-rows}
use Rattle.fm_model.proofs.laws.rows.rows_are_the_cells_shown.Goals as goal

pub returns : goal.returns
returns c = Contains-rows
