-- Lemmas on the definitions.
use Rattle.fm_edition.proofs.EditionLemmas.{CanFollow-from_log, IsLog-front, IsLog-push}
use Rattle.fm_edition.proofs.laws.logs_grow_by_what_can_follow.Goals as goal

pub returns-clause-more : goal.returns-clause-more
returns-clause-more c = IsLog-push

pub returns-clause-front : goal.returns-clause-front
returns-clause-front c = IsLog-front

pub returns-clause-each : goal.returns-clause-each
returns-clause-each c = CanFollow-from_log
