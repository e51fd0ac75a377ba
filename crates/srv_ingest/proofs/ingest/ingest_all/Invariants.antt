-- All names that the inbox gave so far were settled, and the share counts what the report counts. The seat is the same.
use Rattle.std.proofs.Common.{◌≡◌, ◌+◌}
use Rattle.srv_ingest.specs.Turns.{operations}
use Rattle.srv_ingest.proofs.SoFar.{SoFar}
use Rattle.srv_ingest.proofs.ingest.ingest_all.Given as goal

abbrev pub invariant-loop : goal.invariant-loop
invariant-loop g l =
    (goal.iterator-loop g).can_next l.iterator' × (goal.iterator-loop g).is_finite l.iterator'
    × SoFar l.fn.proto (g.I.Inbox.shown l.fn.inbox) (g.I.Inbox.shown l.inbox) l.fn.pass l.seat.pass.now l.report
    × (l.seat.share.now ≡ l.fn.share + operations l.report)
    × (l.seat.pass.ghost_name ≡ l.initial.seat.pass.ghost_name)
    × (l.seat.share.ghost_name ≡ l.initial.seat.share.ghost_name)
