use Rattle.nc_layout.proofs.HeaderLemmas.{All-lengths}
use Rattle.nc_layout.proofs.laying.lay_out.Goals as goal

pub vsizes-requires : goal.vsizes-requires
vsizes-requires c = All-lengths _ c.requires

pub first_outside-requires-clause-lengths : goal.first_outside-requires-clause-lengths
first_outside-requires-clause-lengths c = All-lengths _ c.requires
