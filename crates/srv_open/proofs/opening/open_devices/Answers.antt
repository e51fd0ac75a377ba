-- All devices were opened, or those before the first that wasn't.
use Rattle.std.proofs.Common.{ap}
use Rattle.std.proofs.lemmas.Result.{err_from_is_err_and}
use Rattle.dev_traits.specs.declared.world.Devices.{Devices}
use Rattle.srv_open.specs.Devices.{wanted_of}
use Rattle.srv_open.proofs.DevicesLemmas.{OpensDevices-doors, OpensDevices-inboxes, StopsAt-doors, StopsAt-inboxes}
use Rattle.srv_open.proofs.opening.open_devices.Goals as goal

pub returns-in_err-open_doors-clause-opens : goal.returns-in_err-open_doors-clause-opens
returns-in_err-open_doors-clause-opens g c =
    OpensDevices-doors _ (wanted_of c.args.asked.now) _ _ c.open_doors.new.doors _ _ c.open_doors.ensures.opens
    (ap (λ (d : Devices _ _ _). d.inboxes) c.requires.none) (ap (λ (d : Devices _ _ _). d.clocks) c.requires.none)

pub returns-in_err-open_doors-clause-stops : goal.returns-in_err-open_doors-clause-stops
returns-in_err-open_doors-clause-stops g c =
    let p = err_from_is_err_and c.from_residual.result c.from_residual.ensures.1 in
    rw (p.1, p.2) (StopsAt-doors (wanted_of c.args.asked.now) c.open_doors.new.doors _ _
    (g.M.Machine.shown c.args.opener.now).faults _ _ c.in_err-open_doors.ensures.stops
    (ap (λ (d : Devices _ _ _). d.inboxes) c.requires.none) (ap (λ (d : Devices _ _ _). d.clocks) c.requires.none))

pub returns-in_err-open_inboxes-clause-opens : goal.returns-in_err-open_inboxes-clause-opens
returns-in_err-open_inboxes-clause-opens g c =
    OpensDevices-inboxes _ (wanted_of c.args.asked.now) _ _ _ c.open_doors.new.doors _ _ c.open_doors.ensures.opens
    c.open_inboxes.ensures.opens (ap (λ (d : Devices _ _ _). d.clocks) c.requires.none)

pub returns-in_err-open_inboxes-clause-stops : goal.returns-in_err-open_inboxes-clause-stops
returns-in_err-open_inboxes-clause-stops g c =
    let failed = c.from_residual-in_err-open_inboxes in
    let p = err_from_is_err_and failed.result failed.ensures.1 in
    rw (p.1, p.2) (StopsAt-inboxes (wanted_of c.args.asked.now) c.open_doors.new.doors _ _
    (g.M.Machine.shown c.args.opener.now).faults _ _ _ c.in_ok-open_doors.ensures.all
    c.in_ok-open_doors.ensures.calm c.in_err-open_inboxes.ensures.stops
    (ap (λ (d : Devices _ _ _). d.clocks) c.requires.none))
