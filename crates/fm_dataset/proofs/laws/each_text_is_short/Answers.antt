-- A lemma on the definitions.
use Rattle.fm_dataset.proofs.TextLemmas.{short_texts}
use Rattle.fm_dataset.proofs.laws.each_text_is_short.Goals as goal

pub returns : goal.returns
returns c = short_texts
