-- A table that isn't empty stays as it is.
use Rattle.std.proofs.Common.{refl}
use Rattle.srv_door.proofs.hall.give_back.Goals as goal

pub returns-else-is_empty-clause-values : goal.returns-else-is_empty-clause-values
returns-else-is_empty-clause-values g c = λ key. refl
