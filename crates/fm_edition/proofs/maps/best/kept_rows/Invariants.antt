-- The rows so far, and those of the pages that are left, are those of all pages.
use Rattle.std.proofs.Common.{◌≡◌, ◌++◌}
use Rattle.fm_edition.specs.Indexes.{kept_rows}
use Rattle.fm_edition.proofs.maps.best.kept_rows.Given as goal

abbrev pub invariant-loop-kept : goal.invariant-loop-kept
invariant-loop-kept l = l.rows ++ kept_rows l.kept-iterator ≡ kept_rows l.best.entries
