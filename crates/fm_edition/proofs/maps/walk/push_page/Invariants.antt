-- The rows so far, and those of the instants that are left, are those of the page.
use Rattle.std.proofs.Common.{◌≡◌, ◌++◌, drop}
use Rattle.std.specs.Prelude.{All}
use Rattle.std.specs.List.{filter_map}
use Rattle.fm_edition.specs.Indexes.{entry_row, IsSound}
use Rattle.fm_edition.proofs.maps.walk.push_page.Given as goal

abbrev pub invariant-loop-at : goal.invariant-loop-at
invariant-loop-at l = record {
  sound : All IsSound (drop l.at l.page.entries);
  made : l.rows ++ filter_map (entry_row l.wanted) (drop l.at l.page.entries)
      ≡ l.fn.rows ++ filter_map (entry_row l.wanted) l.page.entries;
}
