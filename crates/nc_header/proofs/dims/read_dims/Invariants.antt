-- At each turn the dimensions that are left are read to the same outcome as all of them.
use Rattle.std.proofs.Common.{◌≡◌, ◌-◌, []}
use Rattle.nc_model.specs.Reading.{items_from, dim_at}
use Rattle.nc_header.proofs.dims.read_dims.Given as goal

abbrev pub invariant-loop-turn : goal.invariant-loop-turn
invariant-loop-turn l = items_from dim_at l.count [] l.fn.reader
    ≡ items_from dim_at (l.count - l._turn) l.found l.reader
