use Rattle.std.proofs.Common.{ap, ◌∙◌}
use Rattle.std.specs.List.{slice_get}
use Rattle.nc_layout.specs.LaidOut.{LaidOut}
use Rattle.nc_layout.proofs.OffsetLemmas.{within}
use Rattle.nc_layout.proofs.layout.Layout.offset.Goals as goal

pub offset_of-requires-clause-within : goal.offset_of-requires-clause-within
offset_of-requires-clause-within c =
    within _ _ c.self.invariant
    (ap (λ (laid : LaidOut). slice_get laid.header.vars c.args.var) c.self.view_is ∙ c.var.ensures)
