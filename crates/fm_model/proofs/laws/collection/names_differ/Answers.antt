-- A lemma on the definitions.
use Rattle.fm_model.proofs.CollectionLemmas.{names_differ}
use Rattle.fm_model.proofs.laws.collection.names_differ.Goals as goal

pub returns : goal.returns
returns c = names_differ
