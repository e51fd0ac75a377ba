-- The rows so far lie so far after their runs.
use Rattle.std.proofs.Common.{take}
use Rattle.fm_edition.specs.Least.{LieAfter}
use Rattle.fm_edition.proofs.maps.page_rows.least_of.Given as goal

abbrev pub invariant-loop-row : goal.invariant-loop-row
invariant-loop-row l = LieAfter l.least (take l.row-index l.rows)
