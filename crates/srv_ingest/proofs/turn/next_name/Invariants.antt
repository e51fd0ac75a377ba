-- Nothing arrived yet, and no call of the inbox failed.
use Rattle.std.proofs.Common.{◌≡◌}
use Rattle.srv_ingest.proofs.turn.next_name.Given as goal

abbrev pub invariant-loop : goal.invariant-loop
invariant-loop g l =
    (goal.iterator-loop g).can_next l.iterator' × (goal.iterator-loop g).is_finite l.iterator'
    × ((g.I.Inbox.shown l.inbox).held ≡ (g.I.Inbox.shown l.fn.inbox).held)
    × ((g.I.Inbox.shown l.inbox).faults ≡ (g.I.Inbox.shown l.fn.inbox).faults)
