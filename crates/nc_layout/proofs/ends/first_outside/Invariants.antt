use Rattle.std.proofs.Common.{◌≡◌, drop}
use Rattle.nc_model.specs.Layout.{first_outside}
use Rattle.nc_layout.proofs.ends.first_outside.Given as goal

abbrev pub invariant-loop-number : goal.invariant-loop-number
invariant-loop-number l =
    first_outside l.header l.len l.number (drop l.number l.header.vars) ≡ first_outside l.header l.len 0 l.header.vars
