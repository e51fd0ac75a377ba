-- The example boxes have these index lists, by computing.
use Rattle.std.proofs.Common.{refl}
use Rattle.nc_model.specs.Layout.{product}
use Rattle.dap_model.specs.Box.{box_len, box_of, index_at, slab_count, slab_indices}
use Rattle.dap_model.proofs.examples.boxes.Goals as goal

pub returns : goal.returns
unfolding box_len box_of index_at slab_count slab_indices product
returns c = record {
  none = refl;
  rows = refl;
  by_division = refl;
}
