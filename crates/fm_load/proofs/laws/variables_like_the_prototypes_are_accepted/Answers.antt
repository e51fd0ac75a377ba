-- Lemmas on the definitions.
use Rattle.fm_load.proofs.AcceptLemmas.{slot-accepted, grid-accepted}
use Rattle.fm_load.proofs.laws.variables_like_the_prototypes_are_accepted.Goals as goal

pub returns-clause-slot : goal.returns-clause-slot
returns-clause-slot c = slot-accepted

pub returns-clause-grid : goal.returns-clause-grid
returns-clause-grid c = grid-accepted
