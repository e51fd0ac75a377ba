-- Lemmas on the definitions.
use Rattle.fm_model.proofs.TextLemmas.{trimmed-zeros, trimmed-last}
use Rattle.fm_model.proofs.laws.attribute.texts_lose_only_their_last_zeros.Goals as goal

pub returns-clause-lost : goal.returns-clause-lost
returns-clause-lost c = trimmed-zeros

pub returns-clause-left : goal.returns-clause-left
returns-clause-left c = trimmed-last
