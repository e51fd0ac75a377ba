-- At each turn the numbers of dimensions that are left are read to the same outcome as all of them.
use Rattle.std.proofs.Common.{◌≡◌, ◌-◌, []}
use Rattle.nc_model.specs.Reading.{items_from, dim_id_at}
use Rattle.nc_header.proofs.vars.read_dim_ids.Given as goal

abbrev pub invariant-loop-turn : goal.invariant-loop-turn
invariant-loop-turn l = items_from (dim_id_at l.dims) l.rank [] l.fn.reader
    ≡ items_from (dim_id_at l.dims) (l.rank - l._turn) l.found l.reader
