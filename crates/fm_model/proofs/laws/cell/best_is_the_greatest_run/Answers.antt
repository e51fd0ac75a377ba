-- A lemma on the definitions.
use Rattle.fm_model.proofs.BestLemmas.{best_both}
use Rattle.fm_model.proofs.laws.cell.best_is_the_greatest_run.Goals as goal

pub returns : goal.returns
returns c = best_both
