-- Each run ends within the limit.
use Rattle.std.proofs.Common.{◌≤◌, sym, subst, All}
use Rattle.fm_model.specs.declared.limit.TheConstants.{MAX_ROWS}
use Rattle.fm_twod.specs.declared.cells.RunCells.{RunCells}
use Rattle.fm_twod.specs.Laid.{end_of}
use Rattle.fm_twod.proofs.LookupLemmas.{ends-few}
use Rattle.fm_twod.proofs.grid.Grid.number_at.Goals as goal

pub number_by-requires : goal.number_by-requires
number_by-requires c =
    subst (All (λ (cells : RunCells). end_of cells ≤ MAX_ROWS)) (sym c.as_slice.ensures)
    (ends-few _ _ c.self.invariant)
