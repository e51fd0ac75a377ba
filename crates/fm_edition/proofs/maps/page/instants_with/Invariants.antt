-- The instants of the entries so far.
use Rattle.std.proofs.Common.{◌≡◌, take}
use Rattle.fm_edition.specs.Page.{instants_of}
use Rattle.fm_edition.proofs.maps.page.instants_with.Given as goal

abbrev pub invariant-loop-entry : goal.invariant-loop-entry
invariant-loop-entry l = l.instants ≡ instants_of (take l.entry-index l.entries)
