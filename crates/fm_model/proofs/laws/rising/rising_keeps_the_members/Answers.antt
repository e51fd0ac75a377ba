-- A lemma on the definitions.
use Rattle.fm_model.proofs.RisingLemmas.{Contains-rising}
use Rattle.fm_model.proofs.laws.rising.rising_keeps_the_members.Goals as goal

pub returns : goal.returns
returns c = Contains-rising
