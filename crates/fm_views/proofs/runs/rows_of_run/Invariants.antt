-- The rows of the times so far.
use Rattle.std.proofs.Common.{◌≡◌, take}
use Rattle.std.specs.List.{filter_map}
use Rattle.fm_model.specs.Rows.{row_at}
use Rattle.fm_views.proofs.runs.rows_of_run.Given as goal

abbrev pub invariant-loop-valid : goal.invariant-loop-valid
invariant-loop-valid l = l.rows ≡ filter_map (row_at l.edition.files l.run) (take l.valid-index l.valid-items)
