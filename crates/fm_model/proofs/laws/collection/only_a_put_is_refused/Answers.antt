-- Lemmas on the definitions.
use Rattle.fm_model.proofs.FullLemmas.{full-expire, full-retract}
use Rattle.fm_model.proofs.laws.collection.only_a_put_is_refused.Goals as goal

pub returns-clause-expire : goal.returns-clause-expire
returns-clause-expire c = full-expire

pub returns-clause-retract : goal.returns-clause-retract
returns-clause-retract c = full-retract
