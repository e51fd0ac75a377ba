-- A lemma on the definitions.
use Rattle.fm_model.proofs.OffsetLemmas.{offset_of-slot}
use Rattle.fm_model.proofs.laws.load.slots_say_where_elements_lie.Goals as goal

pub returns : goal.returns
returns c = offset_of-slot
