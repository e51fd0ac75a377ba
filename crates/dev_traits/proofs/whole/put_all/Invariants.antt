-- The bytes before `sent` were sent, and no call failed.
use Rattle.std.proofs.Common.{◌≡◌, ◌≤◌, ◌-◌, length, take}
use Rattle.dev_traits.specs.Link.{after_put}
use Rattle.dev_traits.proofs.whole.put_all.Given as goal

abbrev pub invariant-loop-sent : goal.invariant-loop-sent
invariant-loop-sent g l = record {
  within : l.sent ≤ length l.bytes;
  sent : (g.L.Link.shown l.link).held ≡ after_put (take l.sent l.bytes) (g.L.Link.shown l.fn.link).held;
  faults : (g.L.Link.shown l.link).faults ≡ (g.L.Link.shown l.fn.link).faults;
}

abbrev pub decreases-loop-sent : goal.decreases-loop-sent
decreases-loop-sent g l = length l.bytes - l.sent
