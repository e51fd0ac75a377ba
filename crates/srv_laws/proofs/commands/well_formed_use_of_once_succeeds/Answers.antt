-- Well-formed use of `once` ends so, and has such a status.
use Rattle.srv_laws.proofs.WellUsedLemmas.{end-once, status-once}
use Rattle.srv_laws.proofs.commands.well_formed_use_of_once_succeeds.Goals as goal

pub returns-clause-end : goal.returns-clause-end
returns-clause-end g c = end-once

pub returns-clause-status : goal.returns-clause-status
returns-clause-status g c = status-once
