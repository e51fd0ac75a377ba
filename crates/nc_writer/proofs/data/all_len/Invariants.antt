-- The variables so far are counted, each of fewer than 2^98 bytes.
use Rattle.std.proofs.Common.{◌≡◌, ◌≤◌, ◌*◌, ◌^◌, length, take}
use Rattle.std.specs.List.{sum_by}
use Rattle.nc_writer.specs.Data.{data_len}
use Rattle.nc_writer.proofs.data.all_len.Given as goal

abbrev pub invariant-loop-variable : goal.invariant-loop-variable
invariant-loop-variable l =
    (l.len ≡ sum_by data_len (take l.variable-index l.variables))
    × (l.len ≤ l.variable-index * 2 ^ 98)
    × (l.variable-index ≤ length l.variables)
