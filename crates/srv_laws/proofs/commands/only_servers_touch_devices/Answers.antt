-- What becomes of the devices of a run.
use Rattle.srv_laws.proofs.WorkedLemmas.{became, leaves-alone, leaves-none, worked}
use Rattle.srv_laws.proofs.WorkedManyLemmas.{became-many, worked-many}
use Rattle.srv_laws.proofs.commands.only_servers_touch_devices.Goals as goal

pub returns-clause-none : goal.returns-clause-none
returns-clause-none g c = leaves-none

pub returns-clause-others : goal.returns-clause-others
returns-clause-others g c = leaves-alone

pub returns-clause-serve : goal.returns-clause-serve
returns-clause-serve g c = became

pub returns-clause-all : goal.returns-clause-all
returns-clause-all g c = worked

pub returns-clause-many : goal.returns-clause-many
returns-clause-many g c = became-many

pub returns-clause-all_many : goal.returns-clause-all_many
returns-clause-all_many g c = worked-many
