-- Well-formed use of `serve` ends so, and has such a status.
use Rattle.srv_laws.proofs.WellServedLemmas.{end-serve, status-serve}
use Rattle.srv_laws.proofs.commands.well_formed_use_of_serve_succeeds.Goals as goal

pub returns-clause-end : goal.returns-clause-end
returns-clause-end g c = end-serve

pub returns-clause-status : goal.returns-clause-status
returns-clause-status g c = status-serve
