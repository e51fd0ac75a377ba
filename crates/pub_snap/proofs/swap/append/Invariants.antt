use Rattle.std.proofs.Common.{◌≡◌}
use Rattle.pub_snap.proofs.swap.append.Given as goal

abbrev pub invariant-loop : goal.invariant-loop
invariant-loop g l =
    (goal.iterator-loop g).can_next l.iterator' × (goal.iterator-loop g).is_finite l.iterator'
    × (l.next ≡ l.fn.next) × (l.board.desk ≡ l.fn.board.desk)
