-- At each turn the variables that are left are read to the same outcome as all of them.
use Rattle.std.proofs.Common.{◌≡◌, ◌-◌, []}
use Rattle.nc_model.specs.Reading.{items_from, var_at}
use Rattle.nc_header.proofs.vars.read_vars.Given as goal

abbrev pub invariant-loop-turn : goal.invariant-loop-turn
invariant-loop-turn l = items_from (var_at l.version l.dims) l.count [] l.fn.reader
    ≡ items_from (var_at l.version l.dims) (l.count - l._turn) l.found l.reader
