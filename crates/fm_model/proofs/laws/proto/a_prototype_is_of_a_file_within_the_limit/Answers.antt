-- Lemmas on the definitions.
use Rattle.fm_model.proofs.SiteLemmas.{made_within}
use Rattle.fm_model.proofs.laws.proto.a_prototype_is_of_a_file_within_the_limit.Goals as goal

pub returns-clause-made : goal.returns-clause-made
returns-clause-made c = made_within

pub returns-clause-few : goal.returns-clause-few
returns-clause-few c = λ proto given. given.few
