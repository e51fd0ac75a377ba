-- No file from `before` on is of the run and has the time.
use Rattle.std.proofs.Common.{◌≡◌, ◌≤◌, length, take}
use Rattle.fm_model.specs.Cell.{has_cell, last_such}
use Rattle.fm_list.proofs.finding.cell_of.Given as goal

abbrev pub invariant-loop-before : goal.invariant-loop-before
invariant-loop-before l = record {
  within : l.before ≤ length l.files;
  same : last_such (has_cell l.run l.valid) (take l.before l.files) ≡ last_such (has_cell l.run l.valid) l.files;
}

abbrev pub decreases-loop-before : goal.decreases-loop-before
decreases-loop-before l = l.before
