-- An array is 8 bytes longer than its elements, which stand one after the other.
use Rattle.dap_model.proofs.XdrLemmas.{length-array_bytes, slice_get-array_bytes}
use Rattle.dap_model.proofs.laws.values.array_layout.Goals as goal

pub returns : goal.returns
returns c = record {
  length = length-array_bytes c.args.kind c.args.numbers.now;
  element = slice_get-array_bytes c.args.kind c.args.numbers.now;
}
