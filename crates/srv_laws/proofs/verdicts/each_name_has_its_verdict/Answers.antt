-- All names that were left were settled, and no verdict is beyond theirs.
use Rattle.srv_laws.proofs.TakenIn.{one-each, right-each}
use Rattle.srv_laws.proofs.verdicts.each_name_has_its_verdict.Goals as goal

pub returns-clause-each : goal.returns-clause-each
returns-clause-each c = one-each

pub returns-clause-right : goal.returns-clause-right
returns-clause-right c = right-each
