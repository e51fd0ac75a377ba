-- A slab that can be cut has a stride and few indices.
use Rattle.std.proofs.Common.{arith}
use Rattle.dap_project.proofs.CutLemmas.{cut_few, cut_stride}
use Rattle.dap_project.proofs.cut.cut_size.Goals as goal

pub slab_count-requires-clause-stride : goal.slab_count-requires-clause-stride
slab_count-requires-clause-stride c = cut_stride c.args.size c.args.slab c.requires

pub slab_count-requires-clause-few : goal.slab_count-requires-clause-few
slab_count-requires-clause-few c = cut_few c.args.size c.args.slab (omega arith) c.requires
