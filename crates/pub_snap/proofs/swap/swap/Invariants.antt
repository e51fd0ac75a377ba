use Rattle.std.proofs.Common.{◌≡◌, drop}
use Rattle.pub_snap.proofs.swap.swap.Given as goal

abbrev pub invariant-loop : goal.invariant-loop
invariant-loop g l =
    (goal.iterator-loop g).can_next l.iterator' × (goal.iterator-loop g).is_finite l.iterator'
    × (l.board.desk.shown.value ≡ l.fn.board.desk.shown.value)
    × (drop l.board.behind l.board.log.items ≡ drop l.fn.board.behind l.fn.board.log.items)
