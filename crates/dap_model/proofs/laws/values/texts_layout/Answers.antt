-- Each text of an array stands after those before it.
use Rattle.dap_model.proofs.TextsLemmas.{slice_get-texts_bytes}
use Rattle.dap_model.proofs.XdrLemmas.{length-texts_bytes}
use Rattle.dap_model.proofs.laws.values.texts_layout.Goals as goal

pub returns : goal.returns
returns c = record {
  length = length-texts_bytes c.args.texts.now;
  text = slice_get-texts_bytes c.args.texts.now;
}
