-- Lemmas on the definitions.
use Rattle.fm_load.proofs.AcceptLemmas.{count-accepted, time-accepted, all_times-accepted}
use Rattle.fm_load.proofs.laws.times_that_differ_are_accepted.Goals as goal

pub returns-clause-count : goal.returns-clause-count
returns-clause-count c = count-accepted

pub returns-clause-time : goal.returns-clause-time
returns-clause-time c = time-accepted

pub returns-clause-all : goal.returns-clause-all
returns-clause-all c = all_times-accepted
