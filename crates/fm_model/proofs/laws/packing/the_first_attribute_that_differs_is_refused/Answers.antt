-- Lemmas on the definitions.
use Rattle.fm_model.proofs.PackingLemmas.{IsFirstOther-same_packing, same_packing-IsFirstOther}
use Rattle.fm_model.proofs.laws.packing.the_first_attribute_that_differs_is_refused.Goals as goal

pub returns : goal.returns
returns c = λ wanted var name. (IsFirstOther-same_packing wanted var name, same_packing-IsFirstOther wanted var name)
