-- A lemma on the example.
use Rattle.fm_model.proofs.SiteLemmas.{IsPrototype-a}
use Rattle.fm_model.proofs.examples.sites.a_file_at_a_site_is_a_prototype_for_a_collection.Goals as goal

pub returns : goal.returns
returns c = IsPrototype-a
