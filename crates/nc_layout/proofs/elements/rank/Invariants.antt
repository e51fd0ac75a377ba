use Rattle.std.proofs.Common.{◌≡◌, ◌+◌, ◌*◌, map, drop}
use Rattle.nc_model.specs.Layout.{product, rank_in, size_at}
use Rattle.nc_layout.proofs.elements.rank.Given as goal

abbrev pub invariant-loop-at : goal.invariant-loop-at
invariant-loop-at l =
    l.rank * product (map (size_at l.header) (drop l.at l.ids))
    + rank_in (map (size_at l.header) (drop l.at l.ids)) (drop l.at l.index)
    ≡ rank_in (map (size_at l.header) l.ids) l.index
