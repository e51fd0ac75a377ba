-- No moment was given yet.
use Rattle.std.proofs.Common.{◌≡◌}
use Rattle.dev_host.proofs.clock.RealClock.next_moment.Given as goal

abbrev pub invariant-moments : goal.invariant-moments
invariant-moments g l = l.self.remaining ≡ l.fn.self.remaining
