-- The indices of a slab are those that it picks, rising, and as many as its count.
use Rattle.dap_model.proofs.SlabLemmas.{length-slab_indices, Contains-slab_indices, IsStrictlyIncreasing-slab_indices}
use Rattle.dap_model.proofs.laws.boxes.slab_picks.Goals as goal

pub returns : goal.returns
returns c = record {
  indices = Contains-slab_indices c.args.slab c.args.index c.requires;
  order = IsStrictlyIncreasing-slab_indices c.args.slab c.requires;
  count = length-slab_indices c.args.slab;
}
