-- The columns that are left lead to the same outcome as all of them.
use Rattle.std.proofs.Common.{◌≡◌, drop}
use Rattle.dap_client.specs.DataReading.{columns_after}
use Rattle.dap_client.proofs.column.read_arrays.Given as goal

abbrev pub invariant-loop-array : goal.invariant-loop-array
invariant-loop-array l = columns_after l.fn.columns l.arrays l.fn.cursor
    ≡ columns_after l.columns (drop l.array-index l.arrays) l.cursor
