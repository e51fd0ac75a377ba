-- The example texts have these bytes, by computing.
use Rattle.std.proofs.Common.{refl}
use Rattle.dap_model.specs.Xdr.{text_bytes, texts_bytes}
use Rattle.dap_model.proofs.examples.texts.Goals as goal

pub returns : goal.returns
unfolding text_bytes texts_bytes
returns c = record {
  alone = refl;
  two = refl;
}
