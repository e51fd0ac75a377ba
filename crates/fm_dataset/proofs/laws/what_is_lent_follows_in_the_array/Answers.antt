-- A lemma on the definitions.
use Rattle.fm_dataset.proofs.OrderLemmas.{follow_in_array}
use Rattle.fm_dataset.proofs.laws.what_is_lent_follows_in_the_array.Goals as goal

pub returns : goal.returns
returns c = follow_in_array
