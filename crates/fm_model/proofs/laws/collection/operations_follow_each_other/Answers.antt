-- Lemmas on the definitions.
use Rattle.fm_model.proofs.CollectionLemmas.{coll-none, coll-push}
use Rattle.fm_model.proofs.laws.collection.operations_follow_each_other.Goals as goal

pub returns-clause-none : goal.returns-clause-none
returns-clause-none c = coll-none

pub returns-clause-more : goal.returns-clause-more
returns-clause-more c = coll-push
