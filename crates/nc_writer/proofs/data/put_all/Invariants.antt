-- The data of the variables so far is written, as far as it fits, and `left` bytes are still to be passed over.
use Rattle.std.proofs.Common.{◌≤◌, ◌-◌, length}
use Rattle.dap_xdr.specs.Datasets.{content_of}
use Rattle.nc_writer.specs.Data.{data_bytes}
use Rattle.nc_writer.proofs.PieceLemmas.{SoFar}
use Rattle.nc_writer.proofs.data.put_all.Given as goal

abbrev pub decreases-loop-at : goal.decreases-loop-at
decreases-loop-at l = length l.variables - l.at

abbrev pub invariant-loop-at : goal.invariant-loop-at
invariant-loop-at l =
    (l.left ≤ l.from)
    × SoFar (data_bytes (content_of l.source)) l.variables l.from l.filled l.at l.left l.fn.out l.out
