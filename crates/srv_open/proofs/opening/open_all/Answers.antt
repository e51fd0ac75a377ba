-- Where a thread can't be started, nothing is opened.
use Rattle.srv_open.specs.Devices.{wanted_of}
use Rattle.srv_open.proofs.DevicesLemmas.{OpensDevices-none}
use Rattle.srv_open.proofs.opening.open_all.Goals as goal

pub returns-then-not-can_start-clause-opens : goal.returns-then-not-can_start-clause-opens
returns-then-not-can_start-clause-opens g c =
    OpensDevices-none _ (wanted_of c.args.asked.now) (g.M.Machine.shown c.args.opener.now).held c.args.devices.now
    c.requires.none
