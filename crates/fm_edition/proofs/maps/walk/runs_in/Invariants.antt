-- The runs so far, and those of the pages that are left, are those of all pages.
use Rattle.std.proofs.Common.{◌≡◌, ◌++◌}
use Rattle.std.specs.Prelude.{map}
use Rattle.fm_edition.specs.Indexes.{entries_in, entries_of}
use Rattle.fm_edition.specs.Latest.{entry_of}
use Rattle.fm_edition.proofs.maps.walk.runs_in.Given as goal

abbrev pub invariant-loop-page : goal.invariant-loop-page
invariant-loop-page l = map entry_of l.runs ++ entries_in l.page-iterator ≡ entries_of l.pages
