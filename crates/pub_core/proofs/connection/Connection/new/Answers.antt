-- Nothing happened.
use Rattle.std.proofs.Common.{refl}
use Rattle.pub_core.proofs.ManyShown.{shown-new}
use Rattle.pub_core.proofs.connection.Connection.new.Goals as goal

pub returns : goal.returns
returns c = λ proto. shown-new proto _ c.in_ok-new.ensures c.new-2.ensures refl
