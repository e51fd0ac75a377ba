-- All moments that the clock gave so far were settled, and the share counts those at which runs went. The seat is the
-- same.
use Rattle.std.proofs.Common.{◌≡◌, ◌+◌}
use Rattle.srv_ingest.proofs.ExpireLemmas.{MomentsSoFar}
use Rattle.srv_ingest.proofs.expire.expire_all.Given as goal

abbrev pub invariant-loop : goal.invariant-loop
invariant-loop g l =
    (goal.iterator-loop g).can_next l.iterator' × (goal.iterator-loop g).is_finite l.iterator'
    × MomentsSoFar l.keep l.site.epoch (g.C.Clock.shown l.fn.clock) (g.C.Clock.shown l.clock) l.fn.pass l.seat.pass.now
    l.expired l.short
    × (l.seat.share.now ≡ l.fn.share + l.expired)
    × (l.seat.pass.ghost_name ≡ l.initial.seat.pass.ghost_name)
    × (l.seat.share.ghost_name ≡ l.initial.seat.share.ghost_name)
