-- Nothing happened to the connections so far.
use Rattle.std.proofs.Common.{[], replicate}
use Rattle.fm_model.specs.declared.proto.Proto.{Proto}
use Rattle.pub_core.specs.Shown.{AreShown}
use Rattle.pub_core.specs.World.{untouched}
use Rattle.pub_core.proofs.machine.untouched.Given as goal

abbrev pub invariant-loop : goal.invariant-loop
invariant-loop l = (proto : Proto) → AreShown proto [] l.made (replicate l.counter untouched)
