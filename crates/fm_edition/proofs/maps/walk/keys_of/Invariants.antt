-- The keys so far, and those of the pages that are left, are those of all pages.
use Rattle.std.proofs.Common.{◌≡◌, ◌++◌}
use Rattle.std.specs.Map.{keys_of}
use Rattle.fm_edition.specs.Indexes.{entries_in, entries_of}
use Rattle.fm_edition.proofs.maps.walk.keys_of.Given as goal

abbrev pub invariant-loop-page : goal.invariant-loop-page
invariant-loop-page l = l.keys ++ keys_of (entries_in l.page-iterator) ≡ keys_of (entries_of l.pages)
