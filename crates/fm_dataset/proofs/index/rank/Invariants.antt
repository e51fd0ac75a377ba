use Rattle.std.proofs.Common.{◌≡◌, ◌+◌, ◌*◌, map, drop}
use Rattle.nc_model.specs.Layout.{product, rank_in}
use Rattle.fm_dataset.specs.Kept.{length_at}
use Rattle.fm_dataset.proofs.index.rank.Given as goal

abbrev pub invariant-loop-at : goal.invariant-loop-at
invariant-loop-at l =
    l.rank * product (map (length_at l.proto) (drop l.at l.ids))
    + rank_in (map (length_at l.proto) (drop l.at l.ids)) (drop l.at l.index)
    ≡ rank_in (map (length_at l.proto) l.ids) l.index
