-- At each turn the attributes that are left are read to the same outcome as all of them.
use Rattle.std.proofs.Common.{◌≡◌, ◌-◌, []}
use Rattle.nc_model.specs.Reading.{items_from, attr_at}
use Rattle.nc_header.proofs.attrs.read_attrs.Given as goal

abbrev pub invariant-loop-turn : goal.invariant-loop-turn
invariant-loop-turn l = items_from attr_at l.count [] l.fn.reader
    ≡ items_from attr_at (l.count - l._turn) l.found l.reader
