-- A lemma on the definitions.
use Rattle.fm_model.proofs.WithinLemmas.{same_grids}
use Rattle.fm_model.proofs.laws.load.a_fit_file_has_the_same_grid.Goals as goal

pub returns : goal.returns
returns c = same_grids
