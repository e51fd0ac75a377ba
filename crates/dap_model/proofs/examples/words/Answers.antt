-- The example numbers and arrays have these bytes, by computing.
use Rattle.std.proofs.Common.{refl}
use Rattle.dap_model.specs.Xdr.{array_bytes, count_twice, elements_bytes, number_bytes}
use Rattle.dap_model.proofs.examples.words.Goals as goal

pub returns : goal.returns
unfolding array_bytes count_twice elements_bytes number_bytes
returns c = record {
  shorts = refl;
  bytes = refl;
  byte_alone = refl;
  double_alone = refl;
}
