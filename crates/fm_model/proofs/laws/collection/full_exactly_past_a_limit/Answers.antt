-- Lemmas on the definitions.
use Rattle.fm_model.proofs.FullLemmas.{full_at-none, full_at-some}
use Rattle.fm_model.proofs.laws.collection.full_exactly_past_a_limit.Goals as goal

pub returns-clause-none : goal.returns-clause-none
returns-clause-none c = full_at-none

pub returns-clause-full : goal.returns-clause-full
returns-clause-full c = full_at-some
