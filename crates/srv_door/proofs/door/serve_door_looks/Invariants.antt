-- Of the links that the door gave so far some had their turns, and each other one is held. The door has failed where
-- that is kept.
use Rattle.std.proofs.Common.{◌≡◌}
use Rattle.srv_door.specs.AtDoor.{AtDoor, FaultsSo}
use Rattle.srv_door.proofs.door.serve_door_looks.Given as goal

abbrev pub invariant-loop : goal.invariant-loop
invariant-loop g l =
    (goal.iterator-loop g).can_next l.iterator' × (goal.iterator-loop g).is_finite l.iterator'
    × AtDoor g.D.L.Link.shown (g.K.Looks.them l.fn.looks)
    (g.D.Door.shown l.fn.door).held (g.D.Door.shown l.door).held
    (g.K.Looks.views l.fn.looks)
    (g.K.Looks.views l.looks) l.hall
    × FaultsSo l.has_failed (g.D.Door.shown l.fn.door).faults (g.D.Door.shown l.door).faults
    × (g.K.Looks.them l.looks ≡ g.K.Looks.them l.fn.looks)
