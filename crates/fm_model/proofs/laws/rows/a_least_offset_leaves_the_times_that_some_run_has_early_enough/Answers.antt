-- Lemmas on the definitions.
use Rattle.fm_model.proofs.BestFromLemmas.{Contains-best_from, IsBest-row_from}
use Rattle.fm_model.proofs.laws.rows.a_least_offset_leaves_the_times_that_some_run_has_early_enough.Goals as goal

pub returns-clause-times : goal.returns-clause-times
returns-clause-times c = Contains-best_from

pub returns-clause-greatest : goal.returns-clause-greatest
returns-clause-greatest c = IsBest-row_from

pub returns-clause-offset : goal.returns-clause-offset
returns-clause-offset c = λ files least row held. (IsBest-row_from files least row held).late
