-- The rows so far, and those of the instants that are left, are as many as those of the page.
use Rattle.std.proofs.Common.{◌≡◌, ◌+◌, drop, length}
use Rattle.std.specs.Prelude.{All}
use Rattle.std.specs.List.{filter_map}
use Rattle.fm_edition.specs.Indexes.{entry_row, IsSound}
use Rattle.fm_edition.proofs.maps.walk.count_page.Given as goal

abbrev pub invariant-loop-at : goal.invariant-loop-at
invariant-loop-at l = record {
  sound : All IsSound (drop l.at l.page.entries);
  counted : l.count + length (filter_map (entry_row l.wanted) (drop l.at l.page.entries))
      ≡ length (filter_map (entry_row l.wanted) l.page.entries);
}
