-- A lemma on the definitions.
use Rattle.fm_dataset.proofs.ElementLemmas.{stored_len}
use Rattle.fm_dataset.proofs.laws.an_element_is_as_long_as_its_kind.Goals as goal

pub returns : goal.returns
returns c = stored_len
