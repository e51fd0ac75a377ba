use Rattle.std.proofs.Common.{arith, refl}
use Rattle.srv_workers.proofs.PartLemmas.{HasRoom-next, PutsParts-all, PutsParts-next, PutsParts-none, TakesShares-next}
use Rattle.srv_workers.proofs.StaffLemmas.{drop-next, left-some}
use Rattle.srv_workers.proofs.parts.take_apart.Goals as goal

-- no parts yet
pub loop-number-init : goal.loop-number-init
loop-number-init g c = (PutsParts-none g.X.Desks.means g.X.Desks.slots c.args.parts.now, refl)

-- a worker is left
pub take_off-worker-requires : goal.take_off-worker-requires
take_off-worker-requires g c =
    left-some c.loop-number._number c.args.staff c.loop-number.staff (omega arith) c.loop-number.invariant.1

-- there is room for the parts of the next worker
pub put-requires-clause-room : goal.put-requires-clause-room
put-requires-clause-room g c =
    HasRoom-next g.X.Desks.means g.X.Desks.slots c.loop-number._number c.args.staff c.loop-number.staff
    c.take_off-worker.result c.take_off-worker.new.list c.args.parts.now c.loop-number.parts c.requires.room
    c.loop-number.invariant.0 c.loop-number.invariant.1 c.take_off-worker.ensures

pub put-requires-clause-shares : goal.put-requires-clause-shares
put-requires-clause-shares g c =
    TakesShares-next g.X.Desks.means g.X.Desks.slots c.loop-number._number c.args.staff c.loop-number.staff
    c.take_off-worker.result c.take_off-worker.new.list c.args.parts.now c.loop-number.parts c.requires.shares
    c.loop-number.invariant.0 c.loop-number.invariant.1 c.take_off-worker.ensures

-- the parts of one worker more
pub loop-number-preserved : goal.loop-number-preserved
loop-number-preserved g c = (
  PutsParts-next g.X.Desks.means g.X.Desks.slots c.loop-number._number c.args.staff c.loop-number.staff
      c.take_off-worker.result c.take_off-worker.new.list c.args.parts.now c.loop-number.parts c.put.new.parts
      c.loop-number.invariant.0 c.loop-number.invariant.1 c.take_off-worker.ensures c.put.ensures,
  drop-next c.loop-number._number c.args.staff c.loop-number.staff c.take_off-worker.result
      c.take_off-worker.new.list c.loop-number.invariant.1 c.take_off-worker.ensures,
)

-- the parts of all workers
pub returns : goal.returns
returns g c = PutsParts-all g.X.Desks.means g.X.Desks.slots c.loop-number._number c.args.staff c.args.parts.now
    c.loop-number.parts c.loop-number.invariant.0 (omega arith)
