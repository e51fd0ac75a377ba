-- The rows so far keep the least offset, so those of the pages that are left decide.
use Rattle.fm_edition.specs.Indexes.{kept_rows}
use Rattle.fm_edition.specs.Least.{KeepLeast}
use Rattle.fm_edition.proofs.maps.best.all_keep.Given as goal

abbrev pub invariant-loop-kept : goal.invariant-loop-kept
invariant-loop-kept l = KeepLeast l.least (kept_rows l.kept-iterator) → KeepLeast l.least (kept_rows l.best.entries)
