-- Lemmas on the definitions.
use Rattle.fm_model.proofs.CollectionLemmas.{length-put_held, length-put_new}
use Rattle.fm_model.proofs.laws.collection.put_counts_names.Goals as goal

pub returns-clause-held : goal.returns-clause-held
returns-clause-held c = length-put_held

pub returns-clause-new : goal.returns-clause-new
returns-clause-new c = length-put_new
