-- Lemmas on the definitions.
use Rattle.fm_model.proofs.FullLemmas.{full-new, full-held}
use Rattle.fm_model.proofs.laws.collection.a_collection_of_most_files_takes_held_names.Goals as goal

pub returns-clause-new : goal.returns-clause-new
returns-clause-new c = full-new

pub returns-clause-held : goal.returns-clause-held
returns-clause-held c = full-held
