-- A lemma on the definitions.
use Rattle.fm_dataset.proofs.TextLemmas.{small_arrays}
use Rattle.fm_dataset.proofs.laws.each_array_is_small.Goals as goal

pub returns : goal.returns
returns c = small_arrays
