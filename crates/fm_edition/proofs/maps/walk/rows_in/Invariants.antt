-- The rows so far, and those of the pages that are left, are those of all pages.
use Rattle.std.proofs.Common.{◌≡◌, ◌++◌}
use Rattle.std.specs.Prelude.{All}
use Rattle.std.specs.List.{filter_map}
use Rattle.fm_edition.specs.Indexes.{entries_in, entries_of, entry_row, IsSound}
use Rattle.fm_edition.proofs.maps.walk.rows_in.Given as goal

abbrev pub invariant-loop-page : goal.invariant-loop-page
invariant-loop-page l = record {
  sound : All IsSound (entries_in l.page-iterator);
  made : l.rows ++ filter_map (entry_row l.wanted) (entries_in l.page-iterator)
      ≡ filter_map (entry_row l.wanted) (entries_of l.pages);
}
