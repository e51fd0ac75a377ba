-- A lemma on the definitions.
use Rattle.fm_dataset.proofs.PartLemmas.{part_is}
use Rattle.fm_dataset.proofs.laws.a_part_declares_the_variable_of_its_values.Goals as goal

pub returns : goal.returns
returns c = part_is
