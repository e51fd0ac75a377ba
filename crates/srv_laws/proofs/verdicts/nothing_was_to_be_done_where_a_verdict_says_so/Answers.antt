-- A verdict that speaks of a look is right by what was held at the look.
use Rattle.srv_laws.proofs.SpokenLemmas.{all-idle, all-not-held}
use Rattle.srv_laws.proofs.verdicts.nothing_was_to_be_done_where_a_verdict_says_so.Goals as goal

pub returns-clause-names : goal.returns-clause-names
returns-clause-names c = all-not-held

pub returns-clause-moments : goal.returns-clause-moments
returns-clause-moments c = all-idle
