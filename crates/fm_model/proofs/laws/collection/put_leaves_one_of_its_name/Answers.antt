-- Lemmas on the definitions.
use Rattle.fm_model.proofs.CollectionLemmas.{put_one, put_last, put_others}
use Rattle.fm_model.proofs.laws.collection.put_leaves_one_of_its_name.Goals as goal

pub returns-clause-one : goal.returns-clause-one
returns-clause-one c = put_one

pub returns-clause-last : goal.returns-clause-last
returns-clause-last c = put_last

pub returns-clause-others : goal.returns-clause-others
returns-clause-others c = put_others
