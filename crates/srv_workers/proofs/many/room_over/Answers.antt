use Rattle.std.proofs.Common.{◌+◌, subst, sym}
use Rattle.srv_workers.specs.Given.{IsBackFor}
use Rattle.srv_workers.specs.Room.{IsRoomFor}
use Rattle.srv_workers.proofs.many.room_over.Goals as goal

-- the room is that in which shares are given back
pub returns-clause-room : goal.returns-clause-room
returns-clause-room g c =
    subst (λ back. IsRoomFor c.args.devices.now c.args.desks back c.in_ok-room.room)
    (sym c.in_ok-room.ensures.back_is) c.in_ok-room.ensures

pub returns-clause-back : goal.returns-clause-back
returns-clause-back g c =
    subst (λ back. IsBackFor g.X.Desks.slots g.X.Desks.means.them.count (λ _. 1 + c.args.clocks) back)
    (sym c.in_ok-room.ensures.back_is) c.in_ok-back.ensures
