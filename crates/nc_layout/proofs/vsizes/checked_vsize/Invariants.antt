use Rattle.std.proofs.Common.{◌≡◌, ◌*◌, ◌^◌, ◌≤◌, map, drop}
use Rattle.nc_model.specs.Layout.{product, size_at, vsize}
use Rattle.nc_layout.proofs.vsizes.checked_vsize.Given as goal

abbrev pub invariant-loop-id : goal.invariant-loop-id
invariant-loop-id l =
    (l.vsize ≤ 2 ^ 40)
    × (l.vsize * product (map (size_at l.header) (drop l.id-index l.id-items)) ≡ vsize l.header l.var)
