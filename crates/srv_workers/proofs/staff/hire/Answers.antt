-- Each kind of device in turn finds room that is left.
use Rattle.std.proofs.Common.{arith}
use Rattle.srv_workers.proofs.HireLemmas.{IsHired-is}
use Rattle.srv_workers.proofs.StaffLemmas.{Adds-all}
use Rattle.srv_workers.proofs.staff.hire.Goals as goal

pub serve_each-requires-clause-eyes : goal.serve_each-requires-clause-eyes
serve_each-requires-clause-eyes g c = c.requires.given.eyes_are

pub serve_each-requires-clause-unseen : goal.serve_each-requires-clause-unseen
serve_each-requires-clause-unseen g c = c.requires.given.unseen

pub take_in_each-requires-clause-hands : goal.take_in_each-requires-clause-hands
take_in_each-requires-clause-hands g c = c.requires.given.at_inboxes

pub take_in_each-requires-clause-free : goal.take_in_each-requires-clause-free
take_in_each-requires-clause-free g c = omega (arith, c.requires.free, c.serve_each.ensures.free)

pub let_go_each-requires-clause-hands : goal.let_go_each-requires-clause-hands
let_go_each-requires-clause-hands g c = c.requires.given.at_clocks

pub let_go_each-requires-clause-free : goal.let_go_each-requires-clause-free
let_go_each-requires-clause-free g c =
    omega (arith, c.requires.free, c.serve_each.ensures.free, c.take_in_each.ensures.free)

pub returns : goal.returns
returns g c =
    IsHired-is g.X.Desks.means c.args.devices.now c.args.given c.into_list.result
    (Adds-all g.X.Desks.means c.args.room.items c.serve_each.new.staff.items c.take_in_each.new.staff.items
    c.let_go_each.new.staff.items c.into_list.result c.args.devices.now.doors c.args.devices.now.inboxes
    c.args.devices.now.clocks c.args.given.at_inboxes c.args.given.at_clocks c.requires.empty c.into_list.ensures
    c.serve_each.ensures.adds c.take_in_each.ensures.adds c.let_go_each.ensures.adds)
