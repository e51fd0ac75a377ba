-- A lemma on the definitions.
use Rattle.fm_model.proofs.CellLemmas.{no_cell_both}
use Rattle.fm_model.proofs.laws.cell.no_cell_where_no_file_has_it.Goals as goal

pub returns : goal.returns
returns c = no_cell_both
