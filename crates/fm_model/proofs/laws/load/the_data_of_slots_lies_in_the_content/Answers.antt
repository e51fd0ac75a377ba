-- A lemma on the definitions.
use Rattle.fm_model.proofs.WithinLemmas.{slots_within}
use Rattle.fm_model.proofs.laws.load.the_data_of_slots_lies_in_the_content.Goals as goal

pub returns : goal.returns
returns c = slots_within
