-- The operations that a worker saw begin the log.
use Rattle.srv_ingest.specs.Ingests.{found_with}
use Rattle.srv_laws.proofs.VerdictLemmas.{all-moments, all-names}
use Rattle.srv_laws.proofs.commands.verdicts_speak_of_one_log.Goals as goal

pub returns-clause-names : goal.returns-clause-names
returns-clause-names g c inbox proto log run is =
    all-names proto (inbox run.came).held run.pass.seen log (found_with is.settles.settled is.settles.untaken) is.begins
    is.settles.is.each

pub returns-clause-moments : goal.returns-clause-moments
returns-clause-moments g c clock proto keep log run is =
    all-moments keep proto.site.epoch run.pass.seen log is.settles.settled is.begins is.settles.each
