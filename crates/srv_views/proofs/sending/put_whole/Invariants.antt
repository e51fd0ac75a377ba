-- The bytes before `sent` were sent, and no call failed.
use Rattle.std.proofs.Common.{◌≡◌, ◌<◌, ◌≤◌, ◌-◌, length, take}
use Rattle.dev_traits.specs.Link.{after_put}
use Rattle.srv_views.proofs.sending.put_whole.Given as goal

abbrev pub invariant-loop-sent : goal.invariant-loop-sent
invariant-loop-sent g l = record {
  within : l.sent ≤ length (g.W.Whole.bytes l.whole);
  put : (g.L.Link.shown l.link).held
      ≡ after_put (take l.sent (g.W.Whole.bytes l.whole)) (g.L.Link.shown l.fn.link).held;
  faults : (g.L.Link.shown l.link).faults ≡ (g.L.Link.shown l.fn.link).faults;
  room : 0 < length l.room;
}

abbrev pub decreases-loop-sent : goal.decreases-loop-sent
decreases-loop-sent g l = length (g.W.Whole.bytes l.whole) - l.sent
