-- A lemma on the definitions.
use Rattle.fm_model.proofs.RowLemmas.{HasHeldFile-rows}
use Rattle.fm_model.proofs.laws.rows.rows_have_held_files.Goals as goal

pub returns : goal.returns
returns c = HasHeldFile-rows
