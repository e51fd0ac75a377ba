-- Lemmas on the definitions.
use Rattle.fm_edition.proofs.TallyLemmas.{bounds}
use Rattle.fm_views.proofs.RowCounts.{few_rows}
use Rattle.fm_views.proofs.RowFacts.{are_rows}
use Rattle.fm_views.proofs.laws.the_rows_of_an_edition_are_those_of_a_dataset.Goals as goal

pub returns-clause-few : goal.returns-clause-few
returns-clause-few c = λ held view edition. few_rows held.files view (bounds held.files edition.within)

pub returns-clause-rows : goal.returns-clause-rows
returns-clause-rows c = are_rows
