-- The maps that are left lead to the same outcome as all of them.
use Rattle.std.proofs.Common.{◌≡◌, [], drop}
use Rattle.dap_client.specs.Reading.{each_at}
use Rattle.dap_client.specs.TextReading.{map_at}
use Rattle.dap_client.proofs.map.read_maps.Given as goal

abbrev pub invariant-loop-dim : goal.invariant-loop-dim
invariant-loop-dim l =
    each_at map_at l.dims [] l.fn.cursor ≡ each_at map_at (drop l.dim-index l.dims) l.maps l.cursor
