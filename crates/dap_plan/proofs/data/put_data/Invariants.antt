-- The data of the parts so far is written, as far as it fits, and `left` bytes of the next are to be passed over.
use Rattle.std.proofs.Common.{◌-◌, length}
use Rattle.dap_xdr.specs.Datasets.{content_of}
use Rattle.dap_plan.proofs.DataLemmas.{DataSoFar, EndsBehind}
use Rattle.dap_plan.proofs.data.put_data.Given as goal

abbrev pub decreases-loop-index : goal.decreases-loop-index
decreases-loop-index l = length l.sent - l.index

abbrev pub invariant-loop-index : goal.invariant-loop-index
invariant-loop-index l = record {
  so_far : DataSoFar (content_of l.source) l.sent l.from l.filled l.index l.left l.fn.out l.out;
  ends : EndsBehind (content_of l.source) l.sent l.from l.index;
}
