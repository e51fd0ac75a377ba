-- The dimensions that are left, times the count so far, come to the same as all of them.
use Rattle.std.proofs.Common.{◌≡◌, drop}
use Rattle.dap_client.specs.DataReading.{counted_from}
use Rattle.dap_client.proofs.column.counted.Given as goal

abbrev pub invariant-loop-dim : goal.invariant-loop-dim
invariant-loop-dim l = counted_from 1 l.dims ≡ counted_from l.count (drop l.dim-index l.dims)
