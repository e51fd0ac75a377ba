-- A lemma on the definitions.
use Rattle.fm_twod.proofs.ViewLemmas.{content-are}
use Rattle.fm_twod.proofs.laws.a_collection_as_it_is_laid_out_shows_its_view.Goals as goal

pub returns : goal.returns
returns c = content-are
