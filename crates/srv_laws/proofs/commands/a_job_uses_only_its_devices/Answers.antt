-- The link, the files and the dialer of a run.
use Rattle.srv_laws.proofs.SaidLemmas.{undialled, unread, unused}
use Rattle.srv_laws.proofs.commands.a_job_uses_only_its_devices.Goals as goal

pub returns-clause-link : goal.returns-clause-link
returns-clause-link g c = unused

pub returns-clause-files : goal.returns-clause-files
returns-clause-files g c = unread

pub returns-clause-dialer : goal.returns-clause-dialer
returns-clause-dialer g c = undialled
