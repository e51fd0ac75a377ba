-- A lemma on the definitions.
use Rattle.fm_model.proofs.RisingLemmas.{Rises-members}
use Rattle.fm_model.proofs.laws.rising.rising_lists_differ_by_members.Goals as goal

pub returns : goal.returns
returns c = Rises-members
