-- The product of the lengths that are left is that of all.
use Rattle.std.proofs.Common.{◌≡◌, drop, map}
use Rattle.nc_model.specs.Layout.{product, size_at}
use Rattle.fm_load.proofs.lengths.has_one_element.Given as goal

abbrev pub invariant-loop-id : goal.invariant-loop-id
invariant-loop-id l = product (map (size_at l.header) (drop l.id-index l.ids)) ≡ product (map (size_at l.header) l.ids)
