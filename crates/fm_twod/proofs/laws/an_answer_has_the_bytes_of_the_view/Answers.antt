-- A lemma on the definitions.
use Rattle.fm_twod.proofs.ViewLemmas.{bytes-are}
use Rattle.fm_twod.proofs.laws.an_answer_has_the_bytes_of_the_view.Goals as goal

pub returns : goal.returns
returns c = bytes-are
