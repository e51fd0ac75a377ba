-- Lemmas on the definitions.
use Rattle.fm_model.proofs.CollectionLemmas.{Contains-expire, expire-append, expire-expire}
use Rattle.fm_model.proofs.laws.collection.expire_keeps_runs_from_its_cutoff.Goals as goal

pub returns-clause-kept : goal.returns-clause-kept
returns-clause-kept c = Contains-expire

pub returns-clause-order : goal.returns-clause-order
returns-clause-order c = expire-append

pub returns-clause-again : goal.returns-clause-again
returns-clause-again c = expire-expire
