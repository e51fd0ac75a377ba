-- How a machine stands for a world.
use Rattle.std.specs.Prelude.{◌≡◌}
use Rattle.fm_model.specs.declared.proto.Proto.{Proto}
use Rattle.fm_edition.specs.Log.{held_of}
use Rattle.pub_core.specs.declared.machine.Machine.{Machine}
use Rattle.pub_core.specs.Shown.{AreShown}
use Rattle.pub_core.specs.World.{World}

-- a machine has the log of a world, the collection that it leaves, and a connection for each session
pub record IsMachine (proto : Proto) (machine : Machine) (world : World) : Type 0 where
  pub edition_is : machine.edition ≡ held_of proto world.log
  pub log_is : machine.log ≡ world.log
  pub shown : AreShown proto world.log machine.connections world.sessions
