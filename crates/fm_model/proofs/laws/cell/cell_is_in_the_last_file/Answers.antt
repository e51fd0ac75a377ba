-- A lemma on the definitions.
use Rattle.fm_model.proofs.CellLemmas.{cell_both}
use Rattle.fm_model.proofs.laws.cell.cell_is_in_the_last_file.Goals as goal

pub returns : goal.returns
returns c = cell_both
