-- A lemma on the definitions.
use Rattle.fm_model.proofs.SlotLemmas.{slots_packed}
use Rattle.fm_model.proofs.laws.packing.a_fit_file_is_packed_as_the_prototype.Goals as goal

pub returns : goal.returns
returns c = slots_packed
