-- One more list of which nothing is known, and the spots of no files.
use Rattle.std.proofs.Common.{◌≡◌, arith, length}
use Rattle.fm_edition.proofs.TurningLemmas.{AreUnknown-more}
use Rattle.fm_edition.proofs.maps.page.turning.spots.unknown.Goals as goal

pub loop-list-preserved : goal.loop-list-preserved
loop-list-preserved c = rw c.in_ok-push.ensures.ok
    (AreUnknown-more c.loop-list._list-index c.loop-list.table c.loop-list.invariant)

pub returns : goal.returns
returns c =
    let all : c.loop-list._list-index ≡ length c.args.lists.now =
    omega (arith, c.loop-list.auto._list-index-end, c.loop-list-test.false) in
    rw (c.in_ok-push-2.ensures.ok, ← all)
    (AreUnknown-more c.loop-list._list-index c.loop-list.table c.loop-list.invariant)
