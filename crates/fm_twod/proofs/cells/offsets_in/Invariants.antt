-- The offsets of the rows so far.
use Rattle.std.proofs.Common.{◌≡◌, map, take}
use Rattle.fm_dataset.specs.Values.{offset_time}
use Rattle.fm_twod.proofs.cells.offsets_in.Given as goal

abbrev pub invariant-loop-row : goal.invariant-loop-row
invariant-loop-row l = l.offsets ≡ map offset_time (take l.row-index l.rows)
