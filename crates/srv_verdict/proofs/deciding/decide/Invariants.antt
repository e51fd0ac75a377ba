-- No verdict was found yet: nothing was published, and no look is spoken of. The seat is the same.
use Rattle.std.proofs.Common.{◌≡◌, []}
use Rattle.srv_verdict.specs.Attempts.{Decides}
use Rattle.srv_verdict.proofs.deciding.decide.Given as goal

abbrev pub invariant-loop : goal.invariant-loop
invariant-loop g l =
    (goal.iterator-loop g).can_next l.iterator' × (goal.iterator-loop g).is_finite l.iterator'
    × Decides l.fn.seat.pass.now l.seat.pass.now l.fn.seat.share.now l.seat.share.now [] []
    × (l.seat.pass.ghost_name ≡ l.fn.seat.pass.ghost_name) × (l.seat.share.ghost_name ≡ l.fn.seat.share.ghost_name)
