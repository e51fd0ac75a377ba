-- Lemmas on the definitions.
use Rattle.fm_edition.proofs.EditionLemmas.{IsEdition-none, IsEdition-after}
use Rattle.fm_edition.proofs.laws.editions_stay_editions.Goals as goal

pub returns-clause-none : goal.returns-clause-none
returns-clause-none c = IsEdition-none

pub returns-clause-after : goal.returns-clause-after
returns-clause-after c = IsEdition-after
