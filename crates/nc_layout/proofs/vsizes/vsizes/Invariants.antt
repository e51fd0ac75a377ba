use Rattle.std.proofs.Common.{◌≡◌, map, take, drop}
use Rattle.nc_model.specs.Layout.{vsize, first_too_large}
use Rattle.nc_layout.proofs.vsizes.vsizes.Given as goal

abbrev pub invariant-loop-number : goal.invariant-loop-number
invariant-loop-number l =
    (l.vsizes ≡ map (vsize l.header) (take l.number l.header.vars))
    × (first_too_large l.header l.number (drop l.number l.header.vars) ≡ first_too_large l.header 0 l.header.vars)
