-- Where all workers ended well, nothing is left.
use Rattle.srv_laws.proofs.UsedUpLemmas.{no-moment, used-up}
use Rattle.srv_laws.proofs.UsedUpManyLemmas.{no-moment-many, used-up-many}
use Rattle.srv_laws.proofs.commands.a_run_that_ends_well_leaves_nothing.Goals as goal

pub returns-clause-devices : goal.returns-clause-devices
returns-clause-devices g c = used-up

pub returns-clause-clocks : goal.returns-clause-clocks
returns-clause-clocks g c = no-moment

pub returns-clause-devices_many : goal.returns-clause-devices_many
returns-clause-devices_many g c = used-up-many

pub returns-clause-clocks_many : goal.returns-clause-clocks_many
returns-clause-clocks_many g c = no-moment-many
