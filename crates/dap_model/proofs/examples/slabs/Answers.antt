-- The example slabs have these indices, by computing.
use Rattle.std.proofs.Common.{refl}
use Rattle.dap_model.specs.Box.{slab_count, slab_indices}
use Rattle.dap_model.proofs.examples.slabs.Goals as goal

pub returns : goal.returns
unfolding slab_count slab_indices
returns c = record {
  every_second = refl;
  not_to_the_stop = refl;
  one = refl;
  turned = refl;
}
