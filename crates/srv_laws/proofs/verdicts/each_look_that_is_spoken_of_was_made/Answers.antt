-- The looks that are spoken of are picked from those that were made.
use Rattle.srv_laws.proofs.SpokenLemmas.{looks-of-moments, looks-of-names}
use Rattle.srv_laws.proofs.verdicts.each_look_that_is_spoken_of_was_made.Goals as goal

pub returns-clause-names : goal.returns-clause-names
returns-clause-names c = looks-of-names

pub returns-clause-moments : goal.returns-clause-moments
returns-clause-moments c = looks-of-moments
