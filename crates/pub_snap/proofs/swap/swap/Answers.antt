-- The last copy that waits follows the one that is shown.
use Rattle.std.proofs.Common.{◌≡◌, List, drop, sym, subst, refl}
use Rattle.left_right.specs.Sides.{view}
use Rattle.pub_pass.specs.Copies.{Copy}
use Rattle.pub_snap.specs.Rule.{Follows, MayFollow}
use Rattle.pub_snap.proofs.Keeping.{last_stays, shows}
use Rattle.pub_snap.proofs.swap.swap.Goals as goal

pub publish_as-next-requires : goal.publish_as-next-requires
publish_as-next-requires g c next is views kept at =
    let book = g.N.Name.book in
    let proto = g.N.Name.proto in
    let last = c.requires.0 in
    let shown = c.loop.board.desk.shown.value in
    let waiting : List Copy = drop c.loop.board.behind c.loop.board.log.items in
    let before : List Copy = c.requires.1.0 in
    let same : next ≡ last = subst (λ (x : Copy). next ≡ x)
    (last_stays shown waiting before last (rw c.loop.invariant.3 c.requires.1.1)) is in
    let may : MayFollow book proto shown next = subst (λ (x : Copy). MayFollow book proto x next)
    (sym c.loop.invariant.2)
    (subst (λ (x : Copy). MayFollow book proto c.args.board.desk.shown.value x) (sym same) c.requires.2) in
    let follows : Follows book proto shown next = may kept.same kept.over in
    let looks = (view c.loop.board.desk.place).looks in (
      record { seen = next.log; looks = looks },
      shows book proto shown next views c.loop.board.desk.place.id looks kept follows.same follows.over follows.later,
      refl,
    )
