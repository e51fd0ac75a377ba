use Rattle.std.proofs.Common.{◌≡◌, ◌++◌, map, take}
use Rattle.fm_dataset.specs.Declarations.{dim_at}
use Rattle.fm_dataset.proofs.array.put_dims.Given as goal

abbrev pub invariant-loop-id : goal.invariant-loop-id
invariant-loop-id l = l.dims ≡ l.fn.dims ++ map (dim_at l.proto) (take l.id-index l.ids)
