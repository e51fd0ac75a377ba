-- An accepted file is published or shown full, and a name without a verdict is the inbox's fault.
use Rattle.srv_laws.proofs.AcceptedLemmas.{all-accepted, fault-unsettled}
use Rattle.srv_laws.proofs.verdicts.an_accepted_file_is_published_or_shown_full.Goals as goal

pub returns-clause-accepted : goal.returns-clause-accepted
returns-clause-accepted c = all-accepted

pub returns-clause-unsettled : goal.returns-clause-unsettled
returns-clause-unsettled c = fault-unsettled
