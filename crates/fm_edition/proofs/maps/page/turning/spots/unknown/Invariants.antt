-- Nothing is known of the spots so far.
use Rattle.fm_edition.specs.Turning.{AreUnknown}
use Rattle.fm_edition.proofs.maps.page.turning.spots.unknown.Given as goal

abbrev pub invariant-loop-list : goal.invariant-loop-list
invariant-loop-list l = AreUnknown l._list-index l.table
