-- The door is served over one collection, of which this stays the same.
use Rattle.std.proofs.Common.{ap}
use Rattle.dap_reply.specs.Collections.{Collections}
use Rattle.srv_door.specs.DoorTurns.{ServesEach}
use Rattle.srv_door.proofs.door.serve_door.Goals as goal

pub returns-clause-serves : goal.returns-clause-serves
unfolding ServesEach
returns-clause-serves g c = c.serve_door_looks.ensures.serves

pub returns-clause-same_proto : goal.returns-clause-same_proto
returns-clause-same_proto g c = ap (λ (them : Collections). them.proto 0) c.serve_door_looks.ensures.same

pub returns-clause-same_still : goal.returns-clause-same_still
returns-clause-same_still g c = ap (λ (them : Collections). them.still 0) c.serve_door_looks.ensures.same
