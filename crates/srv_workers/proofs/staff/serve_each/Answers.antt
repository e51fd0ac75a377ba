use Rattle.std.proofs.Common.{List, ap, arith, length, refl}
use Rattle.std.proofs.lemmas.List.Elements.{All-rest}
use Rattle.srv_workers.specs.declared.worker.TheConstants.{NO_LINKS}
use Rattle.srv_workers.specs.Desks.{IsUnseen}
use Rattle.srv_workers.proofs.StaffLemmas.{Adds-none, Adds-next-door, All-front, drop-next, left-some}
use Rattle.srv_workers.proofs.staff.serve_each.Goals as goal

-- no worker yet
pub loop-number-init : goal.loop-number-init
loop-number-init g c = (
  Adds-none g.X.Desks.means c.args.staff.now.items,
  refl,
  omega arith,
  omega (arith, c.requires.eyes),
  c.requires.unseen,
)

-- one is left, and room
pub take_off-door-requires : goal.take_off-door-requires
take_off-door-requires g c =
    left-some c.loop-number.number c.args.doors.now c.loop-number.doors (omega arith) c.loop-number.invariant.1

pub take_off-eyes-requires : goal.take_off-eyes-requires
take_off-eyes-requires g c = omega (arith, c.loop-number.invariant.3)

pub put-requires : goal.put-requires
put-requires g c = omega (arith, c.requires.free, c.loop-number.invariant.2)

-- the worker of one more
pub loop-number-preserved : goal.loop-number-preserved
loop-number-preserved g c = (
  Adds-next-door g.X.Desks.means c.args.staff.now.items c.loop-number.staff.items c.put.new.self.items
      c.loop-number.number c.args.doors.now c.loop-number.doors c.take_off-door.result c.take_off-door.new.list
      c.loop-number.number c.take_off-eyes.result NO_LINKS c.loop-number.invariant.0 c.loop-number.invariant.1
      c.take_off-door.ensures (All-front (λ those. IsUnseen (g.X.Desks.means.views those)) c.loop-number.eyes
      c.take_off-eyes.new.list c.take_off-eyes.result c.loop-number.invariant.4 c.take_off-eyes.ensures)
      c.put.ensures.items,
  drop-next c.loop-number.number c.args.doors.now c.loop-number.doors c.take_off-door.result c.take_off-door.new.list
      c.loop-number.invariant.1 c.take_off-door.ensures,
  omega (arith, c.loop-number.invariant.2, c.put.ensures.free),
  omega (arith, c.loop-number.invariant.3, ap (λ (l : List _). length l) c.take_off-eyes.ensures),
  All-rest (λ those. IsUnseen (g.X.Desks.means.views those)) c.take_off-eyes.result c.take_off-eyes.new.list
      c.loop-number.eyes c.take_off-eyes.ensures c.loop-number.invariant.4,
)
