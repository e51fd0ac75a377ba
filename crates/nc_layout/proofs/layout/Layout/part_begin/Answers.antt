use Rattle.std.proofs.Common.{ap, ◌∙◌}
use Rattle.std.specs.List.{slice_get}
use Rattle.nc_layout.specs.LaidOut.{LaidOut}
use Rattle.nc_layout.proofs.OffsetLemmas.{within}
use Rattle.nc_layout.proofs.layout.Layout.part_begin.Goals as goal

pub part_begin_of-requires-clause-within : goal.part_begin_of-requires-clause-within
part_begin_of-requires-clause-within c =
    within _ _ c.self.invariant
    (ap (λ (laid : LaidOut). slice_get laid.header.vars c.args.var) c.self.view_is ∙ c.var.ensures)
