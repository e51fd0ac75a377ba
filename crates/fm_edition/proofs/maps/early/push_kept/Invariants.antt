-- The rows so far, and those of the valid times that are left, are those of the page; so are the least runs.
use Rattle.std.proofs.Common.{◌≡◌, ◌++◌, drop}
use Rattle.std.specs.Prelude.{All}
use Rattle.std.specs.List.{filter_map}
use Rattle.fm_edition.specs.Indexes.{kept_row, oldest_runs, IsTimed}
use Rattle.fm_edition.proofs.maps.early.push_kept.Given as goal

abbrev pub invariant-loop-at : goal.invariant-loop-at
invariant-loop-at l = record {
  timed : All IsTimed (drop l.at l.page.entries);
  made : l.rows ++ filter_map kept_row (drop l.at l.page.entries)
      ≡ l.fn.rows ++ filter_map kept_row l.page.entries;
  runs : l.oldest ++ oldest_runs (drop l.at l.page.entries) ≡ l.fn.oldest ++ oldest_runs l.page.entries;
}
