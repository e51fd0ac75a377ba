use Rattle.std.proofs.Common.{◌≡◌, ◌*◌, map, drop}
use Rattle.nc_model.specs.Layout.{product}
use Rattle.fm_dataset.specs.Kept.{length_at}
use Rattle.fm_dataset.proofs.index.count_in.Given as goal

abbrev pub invariant-loop-id : goal.invariant-loop-id
invariant-loop-id l =
    l.count * product (map (length_at l.proto) (drop l.id-index l.ids)) ≡ product (map (length_at l.proto) l.ids)
