-- The rows so far, and those of the pages that are left, are as many as those of all pages.
use Rattle.std.proofs.Common.{◌≡◌, ◌+◌, ◌<◌, ◌^◌, length}
use Rattle.std.specs.Prelude.{All}
use Rattle.std.specs.List.{filter_map}
use Rattle.fm_edition.specs.Indexes.{entries_in, entries_of, entry_row, IsSound}
use Rattle.fm_edition.proofs.maps.walk.count_in.Given as goal

abbrev pub invariant-loop-page : goal.invariant-loop-page
invariant-loop-page l = record {
  few : length (entries_in l.page-iterator) < 2 ^ 32;
  sound : All IsSound (entries_in l.page-iterator);
  counted : l.count + length (filter_map (entry_row l.wanted) (entries_in l.page-iterator))
      ≡ length (filter_map (entry_row l.wanted) (entries_of l.pages));
}
