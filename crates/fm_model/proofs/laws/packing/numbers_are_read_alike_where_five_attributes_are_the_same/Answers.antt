-- Lemmas on the definitions.
use Rattle.fm_model.proofs.PackingLemmas.{HaveSamePacking-same_packing, same_packing-HaveSamePacking}
use Rattle.fm_model.proofs.laws.packing.numbers_are_read_alike_where_five_attributes_are_the_same.Goals as goal

pub returns : goal.returns
returns c = λ wanted var. (HaveSamePacking-same_packing wanted var, same_packing-HaveSamePacking wanted var)
