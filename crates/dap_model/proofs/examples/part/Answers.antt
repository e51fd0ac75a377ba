-- The example part has these bytes, by computing.
use Rattle.std.proofs.Common.{refl}
use Rattle.dap_model.specs.Box.{box_of, slab_count, slab_indices}
use Rattle.dap_model.specs.Xdr.{array_bytes, count_twice, elements_bytes, number_bytes, xdr_of}
use Rattle.dap_model.proofs.examples.part.Goals as goal

pub returns : goal.returns
unfolding box_of slab_count slab_indices array_bytes count_twice elements_bytes number_bytes xdr_of
returns c = refl
