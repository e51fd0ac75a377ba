-- Each run ends within the limit.
use Rattle.std.proofs.Common.{◌≤◌}
use Rattle.fm_model.specs.declared.limit.TheConstants.{MAX_ROWS}
use Rattle.fm_twod.specs.declared.cells.RunCells.{RunCells}
use Rattle.fm_twod.specs.Laid.{end_of}
use Rattle.fm_twod.proofs.LookupLemmas.{all-at}
use Rattle.fm_twod.proofs.lookup.number_by.Goals as goal

pub number_of-requires : goal.number_of-requires
number_of-requires c =
    all-at (λ (cells : RunCells). end_of cells ≤ MAX_ROWS) c.args.runs.now c.item_at.result c.in-Some.cells.now
    c.requires c.in-Some.ensures
