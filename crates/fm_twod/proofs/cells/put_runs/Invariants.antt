-- The cells of the runs so far.
use Rattle.std.proofs.Common.{◌≡◌, take}
use Rattle.fm_twod.specs.Cells.{rows_of_runs, runs_from}
use Rattle.fm_twod.proofs.cells.put_runs.Given as goal

abbrev pub invariant-loop-run : goal.invariant-loop-run
invariant-loop-run l =
    (l.rows ≡ rows_of_runs l.edition.files (take l.run-index l.all))
    × (l.runs ≡ runs_from l.edition.files 0 (take l.run-index l.all))
