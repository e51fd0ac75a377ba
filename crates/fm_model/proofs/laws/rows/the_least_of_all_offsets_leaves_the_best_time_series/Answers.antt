-- A lemma on the definitions.
use Rattle.fm_model.proofs.BestFromLemmas.{best_from-least}
use Rattle.fm_model.proofs.laws.rows.the_least_of_all_offsets_leaves_the_best_time_series.Goals as goal

pub returns : goal.returns
returns c = best_from-least
