-- The texts of a part are an array of the texts that its slabs pick.
use Rattle.dap_model.proofs.TextsLemmas.{texts_part}
use Rattle.dap_model.proofs.laws.values.texts_part_layout.Goals as goal

pub returns : goal.returns
returns c = λ bits words. texts_part c.args.slabs.now bits words c.requires
