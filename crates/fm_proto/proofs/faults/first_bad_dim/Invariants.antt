-- What is looked for stands among those that are left.
use Rattle.std.proofs.Common.{◌≡◌, drop, map}
use Rattle.fm_proto.specs.Searches.{dim_name, first_bad_name}
use Rattle.fm_proto.proofs.faults.first_bad_dim.Given as goal

abbrev pub invariant-loop-dim : goal.invariant-loop-dim
invariant-loop-dim l = first_bad_name (map dim_name (drop l.dim-index l.dims)) ≡ first_bad_name (map dim_name l.dims)
