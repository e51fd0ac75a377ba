-- A lemma on the definitions.
use Rattle.fm_edition.proofs.EditionLemmas.{IsEdition-from_log}
use Rattle.fm_edition.proofs.laws.logs_leave_editions.Goals as goal

pub returns : goal.returns
returns c = IsEdition-from_log
