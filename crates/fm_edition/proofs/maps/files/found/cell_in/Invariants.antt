-- Nothing is found from the piece `before` on.
use Rattle.std.proofs.Common.{◌≡◌, ◌≤◌, length, take}
use Rattle.fm_model.specs.Cell.{cell}
use Rattle.fm_edition.specs.Pieces.{joined}
use Rattle.fm_edition.proofs.maps.files.found.cell_in.Given as goal

abbrev pub invariant-loop-before : goal.invariant-loop-before
invariant-loop-before l = record {
  within : l.before ≤ length l.pieces;
  same : cell (joined (take l.before l.pieces)) l.run l.valid ≡ cell (joined l.pieces) l.run l.valid;
}

abbrev pub decreases-loop-before : goal.decreases-loop-before
decreases-loop-before l = l.before
