-- A lemma on the definitions.
use Rattle.fm_model.proofs.RisingLemmas.{Rises-rising}
use Rattle.fm_model.proofs.laws.rising.rising_rises.Goals as goal

pub returns : goal.returns
returns c = Rises-rising
