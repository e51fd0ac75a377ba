use Rattle.std.proofs.Common.{◌∙◌, arith}
use Rattle.srv_workers.specs.Does.{shows}
use Rattle.srv_workers.proofs.DoneLemmas.{AreDone-is, counted-done}
use Rattle.srv_workers.proofs.HireLemmas.{HasRoom-done, hired-some, RanOver-is}
use Rattle.srv_workers.proofs.run.run_over.Goals as goal

-- there is room for the workers' parts
pub close_over-requires-clause-room : goal.close_over-requires-clause-room
close_over-requires-clause-room g c =
    let shown = shows g.M.D.Door.shown g.M.D.L.Link.shown g.M.I.Inbox.shown g.M.C.Clock.shown in
    let log = g.X.Desks.logs c.work_and_learn-desks.result.0 in
    HasRoom-done shown c.args.keep g.X.Desks.means log c.args.devices.now c.args.given c.work_and_learn-desks.result.1
    c.args.room.parts
    (AreDone-is shown c.args.keep g.X.Desks.means log c.args.devices.now c.args.given c.hire-staff.result
    c.work_and_learn-desks.result.1 c.hire-staff.ensures c.work_and_learn-desks.ensures.done)
    c.requires.room.doors c.requires.room.doors_told c.requires.room.inboxes c.requires.room.inboxes_told
    c.requires.room.clocks c.requires.room.clocks_told

-- and for their shares
pub close_over-requires-clause-free : goal.close_over-requires-clause-free
close_over-requires-clause-free g c number below = omega (
  arith,
  c.requires.back.free number below,
  c.requires.given.shares number below,
  counted-done (shows g.M.D.Door.shown g.M.D.L.Link.shown g.M.I.Inbox.shown g.M.C.Clock.shown) c.args.keep
      g.X.Desks.means (g.X.Desks.logs c.work_and_learn-desks.result.0) c.args.devices.now c.args.given
      c.hire-staff.result c.work_and_learn-desks.result.1 number c.hire-staff.ensures
      c.work_and_learn-desks.ensures.done,
)

-- none was given back before
pub close_over-requires-clause-none : goal.close_over-requires-clause-none
close_over-requires-clause-none g c number below = c.requires.back.none number below

-- all shares are handed back
pub close_over-requires-clause-shares : goal.close_over-requires-clause-shares
close_over-requires-clause-shares g c number below =
    counted-done (shows g.M.D.Door.shown g.M.D.L.Link.shown g.M.I.Inbox.shown g.M.C.Clock.shown) c.args.keep
    g.X.Desks.means (g.X.Desks.logs c.work_and_learn-desks.result.0) c.args.devices.now c.args.given
    c.hire-staff.result c.work_and_learn-desks.result.1 number c.hire-staff.ensures c.work_and_learn-desks.ensures.done
    ∙ c.requires.given.shares number below

-- all ran over the desks
pub returns : goal.returns
returns g c =
    let shown = shows g.M.D.Door.shown g.M.D.L.Link.shown g.M.I.Inbox.shown g.M.C.Clock.shown in
    let log = g.X.Desks.logs c.work_and_learn-desks.result.0 in
    RanOver-is shown c.args.keep g.X.Desks.means log c.args.devices.now c.close_over.new.devices c.args.given
    c.work_and_learn-desks.result.1 c.close_over.result
    (AreDone-is shown c.args.keep g.X.Desks.means log c.args.devices.now c.args.given c.hire-staff.result
    c.work_and_learn-desks.result.1 c.hire-staff.ensures c.work_and_learn-desks.ensures.done)
    (c.work_and_learn-desks.ensures.sound (hired-some g.X.Desks.means c.args.devices.now c.args.given
    c.hire-staff.result c.requires.some c.hire-staff.ensures)) c.close_over.ensures
