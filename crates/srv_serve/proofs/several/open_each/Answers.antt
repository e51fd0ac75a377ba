-- Where memory runs out for the folders, nothing is opened.
use Rattle.std.proofs.Common.{refl}
use Rattle.srv_serve.specs.Many.{asked_by}
use Rattle.srv_open.proofs.DevicesLemmas.{OpensDevices-none}
use Rattle.srv_serve.proofs.StageLemmas.{HasStopped-as}
use Rattle.srv_serve.proofs.several.open_each.Goals as goal

pub returns-in_default-clause-stopped : goal.returns-in_default-clause-stopped
returns-in_default-clause-stopped g c =
    HasStopped-as refl (OpensDevices-none _ (asked_by c.args.serving.now) (g.M.Machine.shown c.args.opener.now).held
    c.args.devices.now c.requires.none) refl
