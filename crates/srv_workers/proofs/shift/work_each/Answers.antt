use Rattle.std.proofs.Common.{arith, slice_index_or}
use Rattle.srv_workers.specs.Does.{Does, shows}
use Rattle.srv_workers.proofs.PairLemmas.{AllZip-at, of-equals}
use Rattle.srv_workers.proofs.shift.work_each.Goals as goal

-- each did its task
pub returns : goal.returns
returns g c =
    let shown = shows g.D.Door.shown g.D.L.Link.shown g.I.Inbox.shown g.C.Clock.shown in
    AllZip-at (Does shown c.args.keep g.X.Desks.means) c.args.staff.now c.for_each_mut.new.s
    (omega (arith, c.for_each_mut.auto.s))
    (λ i d below. let left = (c.for_each_mut.ensures i d below).1 in
    of-equals (Does shown c.args.keep g.X.Desks.means)
    left.argument.now (slice_index_or c.args.staff.now i d) left.after_call.now
    (slice_index_or c.for_each_mut.new.s i d) left.argument_is left.left left.call)
